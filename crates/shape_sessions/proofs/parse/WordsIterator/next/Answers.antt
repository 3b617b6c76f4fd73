use Rattle.std.proofs.Common.{◌≡◌, ◌∷◌, refl, arith, ◌∙◌, sym, ap, ◌<◌, length}
use Rattle.std.proofs.lemmas.Bool.Decides.{nat_tests}
use Rattle.shape_sessions.specs.Words.{words}
use Rattle.shape_sessions.proofs.WordLemmas.{words-none, words-trim, words-split}
use Rattle.shape_sessions.proofs.parse.WordsIterator.next.Goals as goal

pub returns-then-is_empty-clause-steps : goal.returns-then-is_empty-clause-steps
returns-then-is_empty-clause-steps c =
    let trimmed = words-trim c.args.self.now.rest.now c.trim_start_matches-text.result.now c.trim_start_matches-text.ensures.matches in
    let empty : length c.trim_start_matches-text.result.now ≡ 0 = grind (arith, nat_tests) in
    sym trimmed.0 ∙ words-none c.trim_start_matches-text.result.now empty

pub returns-clause-steps : goal.returns-clause-steps
returns-clause-steps c =
    let trimmed = words-trim c.args.self.now.rest.now c.trim_start_matches-text.result.now c.trim_start_matches-text.ensures.matches in
    let some : 0 < length c.trim_start_matches-text.result.now = grind (arith, nat_tests) in
    sym trimmed.0
    ∙ words-split c.trim_start_matches-text.result.now c.split_once.result
    (c.trim_start_matches-text.result, _) c.split_once.ensures.cases trimmed.1 some refl refl
    ∙ sym (ap (λ cut. cut.0.now ∷ words cut.1.now) c.unwrap_or.ensures)
