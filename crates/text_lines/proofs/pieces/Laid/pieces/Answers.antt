use Rattle.std.proofs.Common.{◌≡◌, map, List, All, Vec, Global, refl, sym, ap, subst, ◌∙◌, arith, rules}
use Rattle.std.proofs.lemmas.List.{map_push}
use Rattle.std.proofs.lemmas.List.Elements.{All-push}
use Rattle.text_lines.specs.Levels.{HasLevel, levels_between}
use Rattle.text_lines.specs.Lines.{Shown, AreParts}
use Rattle.text_lines.specs.Pieces.{bytes_in, shown_of}
use Rattle.text_lines.proofs.PartLemmas.{AreParts-push}
use Rattle.text_lines.specs.declared.pieces.Piece.{Piece}
use Rattle.text_lines.proofs.pieces.Laid.pieces.Goals as goal
use Rattle.text_lines.proofs.pieces.Laid.pieces.Goals.{then-start-line+in_ok-push-2, else-start-line}

pub loop-at-preserved : goal.loop-at-preserved
loop-at-preserved c =
    let before = c.loop-at.invariant in
    let has = HasLevel c.in_ok-levels.levels.items c.args.base c.args.line.start in
    let pushed = ap (map shown_of) c.in_ok-push.ensures.items ∙ map_push shown_of c.loop-at.pieces.items _ in
    record {
      within = c.text_until-end.ensures.within;
      parts = subst (AreParts c.args.line.start c.text_until-end.result) (sym pushed)
          (AreParts-push c.args.line.start c.loop-at.start c.text_until-end.result (map shown_of c.loop-at.pieces.items) _ before.parts refl
          c.text_until-end.ensures.after refl);
      levels = subst (All has) (sym pushed) (All-push has (map shown_of c.loop-at.pieces.items) _ before.levels (search rules));
    }

pub returns-clause-parts : goal.returns-clause-parts
returns-clause-parts c =
    let l = c.loop-at in
    let parts = AreParts c.args.line.start c.args.line.end in
    elim c.if-start-line.branch [
      | then-start-line+in_ok-push-2 w ↦
          let pushed = ap (λ (v : Vec Piece Global). map shown_of v.items) w.pieces-is ∙ ap (map shown_of) w.in_ok-push-2.ensures.items ∙ map_push shown_of l.pieces.items _ in
          subst parts (sym pushed)
          (AreParts-push c.args.line.start l.start c.args.line.end (map shown_of l.pieces.items) _ l.invariant.parts refl l.invariant.within refl)
      | else-start-line w ↦
          let all : l.start ≡ c.args.line.end = omega (arith, l.invariant.within, w.if-start-line.false) in
          subst parts (sym (ap (λ (v : Vec Piece Global). map shown_of v.items) w.pieces-is))
          (subst (λ e. AreParts c.args.line.start e (map shown_of l.pieces.items)) all l.invariant.parts)
    ]

pub returns-clause-levels : goal.returns-clause-levels
returns-clause-levels c =
    let l = c.loop-at in
    let start = c.args.line.start in
    let has = HasLevel c.in_ok-levels.levels.items c.args.base start in
    let levels = levels_between (bytes_in c.args.self.now.levels.now) c.args.base start c.args.line.end in
    let after : (parts : List Shown) → All has parts → All (HasLevel levels c.args.base start) parts =
    λ parts all. subst (λ ls. All (HasLevel ls c.args.base start) parts) c.in_ok-levels.ensures all in
    elim c.if-start-line.branch [
      | then-start-line+in_ok-push-2 w ↦
          let pushed = ap (λ (v : Vec Piece Global). map shown_of v.items) w.pieces-is ∙ ap (map shown_of) w.in_ok-push-2.ensures.items ∙ map_push shown_of l.pieces.items _ in
          subst (All (HasLevel levels c.args.base start)) (sym pushed)
          (after _ (All-push has (map shown_of l.pieces.items) _ l.invariant.levels (search rules)))
      | else-start-line w ↦
          subst (All (HasLevel levels c.args.base start)) (sym (ap (λ (v : Vec Piece Global). map shown_of v.items) w.pieces-is))
          (after _ l.invariant.levels)
    ]
