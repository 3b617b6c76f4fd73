use Rattle.std.proofs.Common.{◌<◌, arith}
use Rattle.shape_unicode.proofs.TableLemmas.{early_category}
use Rattle.shape_unicode.proofs.category.category_at.Goals as goal

-- the table is that of the database
pub returns-then-c-lt128 : goal.returns-then-c-lt128
returns-then-c-lt128 c =
    let early : c.args.c < 1792 = omega (arith, c.if-c-lt128.true) in
    early_category c.args.c early

pub returns-then-c-lt1792 : goal.returns-then-c-lt1792
returns-then-c-lt1792 c = early_category c.args.c c.if-c-lt1792.true
