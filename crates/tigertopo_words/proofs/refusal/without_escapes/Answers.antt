use Rattle.std.proofs.Common.{◌≡◌, ◌≢◌, ap, sym, subst, ◌∙◌, All, rules}
use Rattle.std.proofs.lemmas.List.Elements.{filter_from_retain}
use Rattle.std.specs.Str.{encode_utf8_all}
use Rattle.std.specs.Prelude.{string_bytes}
use Rattle.tigertopo_words.specs.Escapes.{escape, plain_text}
use Rattle.tigertopo_words.proofs.EscapeLemmas.{is_plain, plain_text-chars, All-plain_text}
use Rattle.tigertopo_words.proofs.refusal.without_escapes.Goals as goal

made_plain : (c : goal.After-retain) → string_bytes c.retain.new.self ≡ plain_text c.args.text.now
made_plain c =
    let kept = filter_from_retain _ is_plain (λ p x b q called. search rules) _ _ _ c.retain.ensures.filtered.chosen in
    c.retain.ensures.filtered.stay ∙ ap encode_utf8_all kept ∙ sym (plain_text-chars c.retain.ensures.filtered.all)
    ∙ ap plain_text (c.retain.ensures.filtered.spell ∙ c.in_ok-plain.ensures.ok)

pub returns-clause-text : goal.returns-clause-text
returns-clause-text c = made_plain c

pub returns-clause-no_escape : goal.returns-clause-no_escape
returns-clause-no_escape c = subst (All (λ byte. byte ≢ escape)) (sym (made_plain c)) (All-plain_text c.args.text.now)
