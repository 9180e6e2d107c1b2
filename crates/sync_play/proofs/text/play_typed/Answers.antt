use Rattle.sync_play.proofs.Names.{◌∙◌, ap, [], ℕ, Vec, err_from_is_err_and, lines_of}
use Rattle.sync_play.proofs.PlayLaws.{opens_none, faults_so, text_is_printed}
use Rattle.sync_play.proofs.text.play_typed.Goals as goal

pub returns-in_err-header-clause-fault : goal.returns-in_err-header-clause-fault
returns-in_err-header-clause-fault g c =
    let p = err_from_is_err_and c.from_residual.result c.from_residual.ensures.1 in
    rw (p.1, p.2) (opens_none g.T.AtomicInteger.arithmetic g.T.TextInteger.numerals (lines_of c.args.text.now) c.in_err-header.field-0.0 c.in_err-header.ensures.fault)

pub returns-in_err-play_rest-clause-fault : goal.returns-in_err-play_rest-clause-fault
returns-in_err-play_rest-clause-fault g c =
    let p = err_from_is_err_and c.from_residual-in_err-play_rest.result c.from_residual-in_err-play_rest.ensures.1 in
    let told = c.in_ok-header.ensures in
    let header = c.in_ok-header.header in
    rw (p.1, p.2) (faults_so g.T.AtomicInteger.arithmetic g.T.TextInteger.numerals (lines_of c.args.text.now) header c.in_ok-header.rest c.in_err-play_rest.field-0.0 told.opened told.line told.left (c.in_err-play_rest.ensures header.object header.parties [] c.in_ok-machine.ensures))

pub returns-clause-played : goal.returns-clause-played
returns-clause-played g c =
    let told = c.in_ok-header.ensures in
    let header = c.in_ok-header.header in
    text_is_printed g.T.AtomicInteger.arithmetic g.T.TextInteger.numerals (lines_of c.args.text.now) header c.in_ok-header.rest _ _ _ _ told.opened told.line told.left c.new-out.ensures.bytes (c.in_ok-play_rest.ensures header.object header.parties [] c.in_ok-machine.ensures)
    (λ o parties past stands. ap (λ (v : Vec ℕ g.row.A.Denot). v.items) c.into_bytes.ensures.value ∙ c.in_ok-print_last.ensures o parties past stands)
