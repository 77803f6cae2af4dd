use Rattle.std.proofs.Common.{refl, false, ap, map, ◌∙◌}
use Rattle.std.proofs.lemmas.Result.{IfOk-weaker}
use Rattle.clap.specs.Simple.{App, new_app}
use Rattle.tigertopo_words.specs.Commands.{with_rules}
use Rattle.tigertopo_words.specs.Keeping.{IsLocal, rule_for}
use Rattle.tigertopo_words.proofs.CommandsLemmas.{args_in_turn, same_app}
use Rattle.tigertopo_words.proofs.command_line.command_with.Goals as goal

pub returns : goal.returns
returns c =
    let arguments = c.args.row.now.arguments.now in
    let start : IsLocal (new_app c.args.row.now.name.now) c.new.result = record { shape = c.new.ensures.app; local = c.new.ensures.local } in
    let command = c.after_help-command.result in
    let local = same_app command _ c.after_help-command.ensures refl refl (same_app c.about.result _ c.about.ensures refl refl start) in
    IfOk-weaker c.args-2.result _ _
    (λ made added. args_in_turn command made c.args.args.items arguments added c.requires local.local
    ∙ ap (λ (app : App). (with_rules app (map rule_for arguments), false)) local.shape) c.args-2.ensures
