use Rattle.std.proofs.Common.{ℕ, subst}
use Rattle.shape_buffer.specs.Outcome.{Made}
use Rattle.syllabic.specs.Scanning.{syllables_numbered}
use Rattle.syllables.specs.Grammar.{first_syllable}
use Rattle.syllables.specs.MyanmarGrammar.{myanmar_grammar}
use Rattle.myanmar_shaper.proofs.finding.number.Goals as goal

pub returns : goal.returns
returns c =
    let machine = c.myanmar_machine.ensures in
    subst (λ (other : ℕ). Made (syllables_numbered (first_syllable myanmar_grammar other) 0) c.args.buffer.now c.number_syllables.new.buffer)
    machine.other (c.number_syllables.ensures.grammar myanmar_grammar machine.machine)
