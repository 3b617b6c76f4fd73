use Rattle.std.proofs.Common.{rules, ◌≡◌, ℕ, ap, ◌∙◌}
use Rattle.syllabic.specs.Scanning.{syllables_numbered}
use Rattle.syllables.specs.Grammar.{first_syllable}
use Rattle.syllables.specs.UniversalGrammar.{universal_grammar}
use Rattle.universal_shaper.specs.Syllables.{count_skipped}
use Rattle.universal_shaper.proofs.finding.number.Goals as goal

pub returns : goal.returns
returns c =
    let old = c.args.buffer.now in
    let said = c.number_syllables.ensures.grammar universal_grammar c.universal_machine.ensures.machine in
    let skipped : c.count_skipped-skipped.result ≡ count_skipped old.items = search rules in
    let other = ap (λ (n : ℕ). syllables_numbered (first_syllable universal_grammar n) c.count_skipped-skipped.result old)
    c.universal_machine.ensures.other in
    record {
      made = said.made ∙ other ∙ ap (λ (n : ℕ). syllables_numbered (first_syllable universal_grammar 8) n old) skipped;
      no_longer = said.no_longer;
      same_limit = said.same_limit;
    }
