use Rattle.drive.specs.Programs.{lines_of}
use Rattle.equations.proofs.Planned.{play_step}
use Rattle.analyses.proofs.ConstantSteps.{waits_again, contributes, stays}
use Rattle.analyses.proofs.constants.as_equations.ConstantsEquations.give.Goals as goal

pub returns-in_default : goal.returns-in_default
returns-in_default c = λ x given e.
    let run = c.args.run.now in
    play_step _ _ _ given c.args.value e
    (stays (lines_of c.args.self.now.program) run.place.p run.place.r run.pending run.so_far c.args.value c.in_default.is)

pub returns-in-Ask : goal.returns-in-Ask
returns-in-Ask c = λ x given e.
    let run = c.args.run.now in
    play_step _ _ _ given c.args.value e
    (waits_again (lines_of c.args.self.now.program) run.place.p run.place.r run.pending c.in-Some.pending run.so_far c.args.value c.in-Some.is
    c.in-Ask.unknown c.in-Ask.ensures)

pub returns-in-Answer : goal.returns-in-Answer
returns-in-Answer c = λ x given e.
    let run = c.args.run.now in
    play_step _ _ _ given c.args.value e
    (contributes (lines_of c.args.self.now.program) run.place.p run.place.r run.pending c.in-Some.pending run.so_far c.args.value c.in-Some.is
    c.in-Answer.c c.join-run.result c.next_ask-run.result c.in-Answer.ensures c.join-run.ensures (c.next_ask-run.ensures c.join-run.result))
