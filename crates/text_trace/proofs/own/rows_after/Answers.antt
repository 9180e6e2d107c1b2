use Rattle.text_trace.proofs.Names.{◌∙◌, ℕ, List, map, ap, sym, string_bytes, entries}
use Rattle.std.specs.Borrow.{Bor}
use Rattle.std.specs.Str.Lossy.{utf8_lossy}
use Rattle.std.proofs.lemmas.Simd.{map-map}
use Rattle.own_play.specs.Machine.{state_of}
use Rattle.text_trace.proofs.OwnLaws.{rows_read}
use Rattle.text_trace.proofs.own.rows_after.Goals as goal

pub returns : goal.returns
returns c =
    let raw : Bor (List ℕ) → List ℕ = λ name. name.now in
    let lossy : Bor (List ℕ) → List ℕ = λ name. utf8_lossy name.now in
    let same = ap (map string_bytes) c.deref-2.ensures.value in
    rows_read c.args.opened.now (map string_bytes c.in_ok-titles.titles.items) (map string_bytes c.deref-2.result.now) (state_of c.in_ok-machine.machine) (entries c.new-rows.result.items) (entries c.add_steps.new.rows.items) c.in_ok-fault.fault c.requires.left same
    (same ∙ c.in_ok-titles.ensures ∙ ap (map lossy) c.deref.ensures.value ∙ sym (map-map utf8_lossy raw c.args.opened.now.lock.names.items)) c.in_ok-machine.ensures (ap entries c.new-rows.ensures.items) c.in_ok-fault.ensures
