use Rattle.shape_pipeline.proofs.StringLemmas.{string-cleared, string-glyphs}
use Rattle.shape_pipeline.proofs.strings.strings_keep_promises.Goals as goal

pub returns-clause-glyphs : goal.returns-clause-glyphs
returns-clause-glyphs c = λ run bytes text glyphs is are preserves preserves_flags.
    string-glyphs bytes text is run glyphs are preserves preserves_flags

pub returns-clause-cleared : goal.returns-clause-cleared
returns-clause-cleared c = λ bytes text is. string-cleared bytes text is
