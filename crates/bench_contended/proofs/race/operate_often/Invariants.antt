use Rattle.bench_contended.proofs.race.operate_often.Given as goal

abbrev pub invariant-loop-operations : goal.invariant-loop-operations
invariant-loop-operations g l = g.O.Contended.owns l.object l.pass
