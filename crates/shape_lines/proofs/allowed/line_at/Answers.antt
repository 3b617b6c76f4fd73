use Rattle.std.proofs.Common.{◌≡◌, ◌<◌, Bool, length, sym, ap, ap₂, ◌∙◌, arith, eq-eqb}
use Rattle.shape_lines.specs.declared.allowed.LineAt.{LineAt}
use Rattle.shape_lines.specs.declared.cutting.Line.{Line}
use Rattle.shape_lines.specs.declared.spots.Spot.{Spot}
use Rattle.shape_lines.proofs.SpotLemmas.{spot-get, spot-past}
use Rattle.shape_lines.proofs.allowed.line_at.Goals as goal

abbrev made : Line → Bool → LineAt
made l s = record { line = l; ends_safely = s }

pub returns-then-end-spots : goal.returns-then-end-spots
returns-then-end-spots c =
    ap₂ made c.line_between.ensures
    (eq-eqb c.args.end (length c.args.spots.now) c.if-end-spots.true
    ∙ sym (ap (λ (s : Spot). s.safe) (spot-past c.args.spots.now c.args.end (omega (arith, c.if-end-spots.true)))))

pub returns-else-end-spots : goal.returns-else-end-spots
returns-else-end-spots c =
    let within = c.requires.within in
    let as_many = c.requires.as_many in
    let apart = c.if-end-spots.false in
    let lt : c.args.end < length c.args.spots.now = omega arith in
    ap₂ made c.line_between.ensures (sym (ap (λ (s : Spot). s.safe) (spot-get c.args.spots.now c.args.end _ lt)))
