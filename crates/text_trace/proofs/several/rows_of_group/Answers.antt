use Rattle.text_trace.proofs.Names.{◌≡◌, ◌∙◌, refl, sym, ap, subst, map, List, ℕ, Bor, IfOk, string_bytes}
use Rattle.std.specs.Str.Lossy.{utf8_lossy}
use Rattle.std.proofs.lemmas.Simd.{map-map}
use Rattle.text_room.specs.Walk.{told}
use Rattle.text_trace.specs.Trace.{RowsAndFault, rows_told}
use Rattle.text_trace.proofs.SeveralLaws.{rows_left}
use Rattle.text_trace.proofs.several.rows_of_group.Goals as goal

pub returns : goal.returns
returns g c =
    let raw : Bor (List ℕ) → List ℕ = λ name. name.now in
    let lossy : Bor (List ℕ) → List ℕ = λ name. utf8_lossy name.now in
    subst (λ (rows : RowsAndFault g.row.T.Denot). IfOk c.rows_after.result (λ found. rows_told found ≡ rows))
    (rows_left g.T.AtomicInteger.arithmetic g.T.TextInteger.numerals (record { names = c.deref-2.result; shown = c.deref-3.result; objects = c.deref-4.result; parties = c.args.group.now.parties }) (told c.args.group.now c.args.rest.now) c.args.rest.now (ap (map raw) c.deref-2.ensures.value)
    (ap (map string_bytes) c.deref-3.ensures.value ∙ c.in_ok-shown.ensures ∙ ap (map lossy) c.deref.ensures.value ∙ sym (map-map utf8_lossy raw c.args.group.now.names.items))
    c.deref-4.ensures.value refl c.requires.left refl refl)
    c.rows_after.ensures
