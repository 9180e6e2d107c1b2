use Rattle.sync_steps.proofs.Names.{◌≡◌, ℕ, ◌<◌, length, arith, Input, Configuration}
use Rattle.sync_steps.proofs.Stands.{turns_step, turns_headline, turns_fault}
use Rattle.sync_steps.proofs.steps.machine.Machine.step.Goals as goal

-- a party below the number that the machine has in place
there : {T : Type 0} {own now : Configuration T} {party : ℕ} → own ≡ now → party < length own.parties → party < length now.parties
there same below = rw same at below

-- a beginning

pub returns-in-Begin-clause-next : goal.returns-in-Begin-clause-next
returns-in-Begin-clause-next g c =
    turns_step g.T.AtomicInteger.arithmetic c.args.party c.args.input (Input.Begin c.in-Begin.call) c.args.self.now c.begin.new.self c.begin.result (there c.self.view_is (omega arith)) c.read_values.ensures c.in-Begin.is c.begin.ensures.ok

pub returns-in-Begin-clause-headline : goal.returns-in-Begin-clause-headline
returns-in-Begin-clause-headline g c =
    turns_headline g.T.AtomicInteger.arithmetic c.args.party c.args.input c.args.self.now c.begin.new.self c.begin.result (returns-in-Begin-clause-next g c)

pub returns-in-Begin-clause-fault : goal.returns-in-Begin-clause-fault
returns-in-Begin-clause-fault g c =
    turns_fault g.T.AtomicInteger.arithmetic c.args.party c.args.input (Input.Begin c.in-Begin.call) c.args.self.now c.begin.result (there c.self.view_is (omega arith)) c.in-Begin.is c.begin.ensures.fault

-- a step

pub returns-in-Go-clause-next : goal.returns-in-Go-clause-next
returns-in-Go-clause-next g c =
    turns_step g.T.AtomicInteger.arithmetic c.args.party c.args.input Input.Go c.args.self.now c.go.new.self c.go.result (there c.self.view_is (omega arith)) c.read_values.ensures c.in-Go.is c.go.ensures.ok

pub returns-in-Go-clause-headline : goal.returns-in-Go-clause-headline
returns-in-Go-clause-headline g c =
    turns_headline g.T.AtomicInteger.arithmetic c.args.party c.args.input c.args.self.now c.go.new.self c.go.result (returns-in-Go-clause-next g c)

pub returns-in-Go-clause-fault : goal.returns-in-Go-clause-fault
returns-in-Go-clause-fault g c =
    turns_fault g.T.AtomicInteger.arithmetic c.args.party c.args.input Input.Go c.args.self.now c.go.result (there c.self.view_is (omega arith)) c.in-Go.is c.go.ensures.fault

-- an answer of the wait closure

pub returns-in-Answer-clause-next : goal.returns-in-Answer-clause-next
returns-in-Answer-clause-next g c =
    turns_step g.T.AtomicInteger.arithmetic c.args.party c.args.input (Input.Answer c.in-Answer.action) c.args.self.now c.answer.new.self c.answer.result (there c.self.view_is (omega arith)) c.read_values.ensures c.in-Answer.is c.answer.ensures.ok

pub returns-in-Answer-clause-headline : goal.returns-in-Answer-clause-headline
returns-in-Answer-clause-headline g c =
    turns_headline g.T.AtomicInteger.arithmetic c.args.party c.args.input c.args.self.now c.answer.new.self c.answer.result (returns-in-Answer-clause-next g c)

pub returns-in-Answer-clause-fault : goal.returns-in-Answer-clause-fault
returns-in-Answer-clause-fault g c =
    turns_fault g.T.AtomicInteger.arithmetic c.args.party c.args.input (Input.Answer c.in-Answer.action) c.args.self.now c.answer.result (there c.self.view_is (omega arith)) c.in-Answer.is c.answer.ensures.fault

-- an answer of the choice closure

pub returns-in-Choose-clause-next : goal.returns-in-Choose-clause-next
returns-in-Choose-clause-next g c =
    turns_step g.T.AtomicInteger.arithmetic c.args.party c.args.input (Input.Choose c.in-Choose.choice) c.args.self.now c.choose.new.self c.choose.result (there c.self.view_is (omega arith)) c.read_values.ensures c.in-Choose.is c.choose.ensures.ok

pub returns-in-Choose-clause-headline : goal.returns-in-Choose-clause-headline
returns-in-Choose-clause-headline g c =
    turns_headline g.T.AtomicInteger.arithmetic c.args.party c.args.input c.args.self.now c.choose.new.self c.choose.result (returns-in-Choose-clause-next g c)

pub returns-in-Choose-clause-fault : goal.returns-in-Choose-clause-fault
returns-in-Choose-clause-fault g c =
    turns_fault g.T.AtomicInteger.arithmetic c.args.party c.args.input (Input.Choose c.in-Choose.choice) c.args.self.now c.choose.result (there c.self.view_is (omega arith)) c.in-Choose.is c.choose.ensures.fault
