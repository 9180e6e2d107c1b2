use Rattle.running_barrier.proofs.Barrier.stay.Goals as goal

pub ask-requires-clause-looks : goal.ask-requires-clause-looks
ask-requires-clause-looks g c = (c.requires.comes.0, c.spin-seen.ensures.looks c.requires.comes.0 c.requires.comes.1)

pub returns-clause-asked : goal.returns-clause-asked
returns-clause-asked g c = (_, c.spin-seen.ensures.at_most, c.ask.ensures.asked)

pub returns-clause-left : goal.returns-clause-left
returns-clause-left g c = λ done at. c.ask.ensures.left done (c.spin-seen.ensures.looks done at)
