use Rattle.layout_matching.proofs.scanning.next_unrefused.Goals as goal

pub returns-in-Some-clause-refused : goal.returns-in-Some-clause-refused
returns-in-Some-clause-refused c = λ k from below. c.next_by.ensures.refused c.args.around.now c.in-Some.ensures k from below
