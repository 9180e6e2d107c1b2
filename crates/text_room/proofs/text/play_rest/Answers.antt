use Rattle.text_room.proofs.Names.{err_from_is_err_and, string_bytes, map}
use Rattle.text_room.proofs.PlayLaws.{begins, goes_on, ends, fails}
use Rattle.text_room.proofs.text.play_rest.Goals as goal

pub loop-stride-init : goal.loop-stride-init
loop-stride-init g c = (
  c.requires.countable,
  λ parties past stands. begins g.T.AtomicInteger.arithmetic g.T.TextInteger.numerals (map (λ name. name.now) c.args.names.now) c.args.objects.now parties past c.args.rest.now (string_bytes c.args.out.now) c.args.room.now stands,
)

pub loop-stride-preserved : goal.loop-stride-preserved
loop-stride-preserved g c = (
  c.in_ok-stride.ensures.countable,
  λ parties past stands. goes_on g.T.AtomicInteger.arithmetic g.T.TextInteger.numerals (map (λ name. name.now) c.args.names.now) c.args.objects.now parties past c.args.rest.now c.loop-stride.rest c.next_stride.new.rest (string_bytes c.args.out.now) (string_bytes c.loop-stride.out) (string_bytes c.print_event.new.out)
      c.loop-stride.room c.next_stride.new.room _ c.in-Some.stride c.in-Some.is (c.loop-stride.invariant.1 parties past stands) c.in_ok-stride.ensures.stride c.in_ok-stride.ensures.some c.in_ok-stride.ensures.quiet
      c.in_ok-print_event.ensures,
)

pub returns-in_err-stride : goal.returns-in_err-stride
returns-in_err-stride g c parties past stands =
    let p = err_from_is_err_and c.from_residual.result c.from_residual.ensures.1 in
    rw (p.1, p.2) (fails g.T.AtomicInteger.arithmetic g.T.TextInteger.numerals (map (λ name. name.now) c.args.names.now) c.args.objects.now parties past c.args.rest.now c.loop-stride.rest c.next_stride.new.rest (string_bytes c.args.out.now) (string_bytes c.loop-stride.out)
    c.loop-stride.room c.next_stride.new.room c.in_err-stride.field-0.0 (c.loop-stride.invariant.1 parties past stands) c.in_err-stride.ensures.stride)

pub returns : goal.returns
returns g c parties past stands =
    ends g.T.AtomicInteger.arithmetic g.T.TextInteger.numerals (map (λ name. name.now) c.args.names.now) c.args.objects.now parties past c.args.rest.now c.loop-stride.rest c.next_stride.new.rest (string_bytes c.args.out.now) (string_bytes c.loop-stride.out)
    c.loop-stride.room c.next_stride.new.room _ c.in_default.is (c.loop-stride.invariant.1 parties past stands) c.in_ok-stride.ensures.stride
