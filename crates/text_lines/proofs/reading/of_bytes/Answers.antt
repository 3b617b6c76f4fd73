use Rattle.std.proofs.Common.{arith}
use Rattle.std.proofs.lemmas.Grind.{common_steps}
use Rattle.text_lines.proofs.LevelLemmas.{of_bytes_past}
use Rattle.text_lines.proofs.reading.of_bytes.Goals as goal

pub returns-then-place-values : goal.returns-then-place-values
returns-then-place-values g c =
    let past = of_bytes_past c.loop-place.place c.args.characters.now c.args.values.now (grind arith) in
    grind (arith, common_steps, past, c.loop-place.invariant)
