use Rattle.std.proofs.Common.{◌∙◌, ◌++◌, List, ℕ, length, ap, arith}
use Rattle.std.proofs.lemmas.List.{drop-replicate}
use Rattle.c_runs.specs.Texts.{filled_up}
use Rattle.c_runs.proofs.texts.language_bytes.Goals as goal

pub returns : goal.returns
returns c =
    let name = c.fitting-name.result.now in
    c.put_bytes.ensures.fits (omega (arith, c.fitting-name.ensures.within))
    ∙ ap (λ (zeros : List ℕ). name ++ zeros) (drop-replicate (length name) 64 0)
    ∙ ap (filled_up 64) c.fitting-name.ensures.fitting
