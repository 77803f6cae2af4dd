-- Tables of chains that are put together one by one.
use Rattle.std.proofs.Common.{◌≡◌, ℕ, ◌+◌, ◌-◌, ◌≤◌, inl, inr, List, [], ◌∷◌, ◌++◌, length, take, drop, All, refl, sym, ap, ◌∙◌, arith}
use Rattle.std.proofs.lemmas.Bool.{cases_lt}
use Rattle.std.proofs.lemmas.List.{drop-append-le, get_or_append_left, get_or_push, take-append-le, drop_at, take_all, map_push, length-append, length-drop, length-map, length_push}
use Rattle.std.proofs.lemmas.List.Elements.{All-nil, All-head, All-tail, All-push, All-weaker}
use Rattle.std.proofs.lemmas.List.Sums.{sum_by_push}
use Rattle.tl_geom.specs.declared.point.Point.{Point}
use Rattle.tl_map_county.specs.declared.chains.ChainRow.{ChainRow}
use Rattle.tl_map_county.specs.Chains.{segment_count}
use Rattle.tl_map_county.specs.Rows.{IsWithin, chain_in, chains_in, IsTable}

-- the chains of the rows stay as points are appended
pub chains_in-append : (points more : List Point) (rows : List ChainRow) → All (IsWithin points) rows → chains_in (points ++ more) rows ≡ chains_in points rows
chains_in-append points more [] within = refl
chains_in-append points more (row ∷ rows) within =
    let here : row.first + row.count ≤ length points = All-head (IsWithin points) row rows within in
    let cut : take row.count (drop row.first (points ++ more)) ≡ take row.count (drop row.first points) =
    ap (take row.count) (drop-append-le row.first points more (omega arith))
    ∙ take-append-le row.count (drop row.first points) more (omega (arith, length-drop row.first points)) in
    rw (cut, chains_in-append points more rows (All-tail (IsWithin points) row rows within)) refl

-- the last row has the points that were appended
pub chain_in-last : (points more : List Point) (t first count : ℕ) → first ≡ length points → count ≡ length more → chain_in (points ++ more) (record { tlid = t; first = first; count = count }) ≡ record { tlid = t; points = more }
chain_in-last points more t first count at len =
    ap (λ ps. record { tlid = t; points = ps })
    (ap (take count) (drop_at points more first (sym at)) ∙ take_all count more (omega arith))

-- the chains of the rows with one row more
pub chains_in-push : (points more : List Point) (rows : List ChainRow) (t first count : ℕ) → All (IsWithin points) rows → first ≡ length points → count ≡ length more → chains_in (points ++ more) (rows ++ record { tlid = t; first = first; count = count } ∷ []) ≡ chains_in points rows ++ record { tlid = t; points = more } ∷ []
chains_in-push points more rows t first count within at len =
    map_push (chain_in (points ++ more)) rows (record { tlid = t; first = first; count = count })
    ∙ ap (λ cs. cs ++ chain_in (points ++ more) (record { tlid = t; first = first; count = count }) ∷ []) (chains_in-append points more rows within)
    ∙ ap (λ c. chains_in points rows ++ c ∷ []) (chain_in-last points more t first count at len)

-- the rows and points are a table with one row more
pub IsTable-push : (points more : List Point) (rows : List ChainRow) (t first count : ℕ) → IsTable points rows → first ≡ length points → count ≡ length more → 1 ≤ length more → IsTable (points ++ more) (rows ++ record { tlid = t; first = first; count = count } ∷ [])
IsTable-push points more rows t first count table at len some = record {
  within = All-push (IsWithin (points ++ more)) rows (record { tlid = t; first = first; count = count })
      (All-weaker (IsWithin points) (IsWithin (points ++ more)) (λ row h. omega (arith, length-append points more, h)) rows table.within)
      (omega (arith, length-append points more));
  behind = λ c d low.
      let chains = chains_in-push points more rows t first count table.within at len in
      let before : take c (chains_in (points ++ more) (rows ++ record { tlid = t; first = first; count = count } ∷ [])) ≡ take c (chains_in points rows) =
      ap (take c) chains ∙ take-append-le c (chains_in points rows) _ (omega (arith, low, length_push rows (record { tlid = t; first = first; count = count }), length-map rows (chain_in points))) in
      elim (cases_lt c (length rows)) [
        | inl earlier ↦ ap (λ (row : ChainRow). row.first) (get_or_append_left rows _ d c earlier) ∙ table.behind c d earlier ∙ ap (λ cs. segment_count cs + c) (sym before)
        | inr last ↦
            let here : length rows ≡ c = omega (arith, low, length_push rows (record { tlid = t; first = first; count = count })) in
            let all : take c (chains_in points rows) ≡ chains_in points rows = take_all c (chains_in points rows) (omega (arith, length-map rows (chain_in points))) in
            ap (λ (row : ChainRow). row.first) (get_or_push rows (record { tlid = t; first = first; count = count }) d c here)
            ∙ omega (arith, at, table.total, here, ap segment_count (before ∙ all))
      ];
  total =
      let chains = chains_in-push points more rows t first count table.within at len in
      let segments = ap segment_count chains ∙ sum_by_push (λ c. length c.points - 1) (chains_in points rows) (record { tlid = t; points = more }) in
      omega (arith, segments, table.total, length-append points more, length_push rows (record { tlid = t; first = first; count = count }));
}

-- no rows and no points are a table
pub IsTable-nil : (points : List Point) (rows : List ChainRow) → points ≡ [] → rows ≡ [] → IsTable points rows
IsTable-nil points rows no_points no_rows = rw (no_points, no_rows) (record { within = All-nil (IsWithin []); behind = λ c d low. absurd (omega (arith, low)); total = refl })
