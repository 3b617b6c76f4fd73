use Rattle.std.proofs.Common.{◌≡◌, ℕ, ◌-◌, ◌<◌, ◌≤◌, ◌⊎◌, List, length, get_or, subst, sym, ap, ◌∙◌, arith}
use Rattle.std.proofs.lemmas.List.{get_or_default}
use Rattle.std.specs.Prelude.{min, max}
use Rattle.shape_common.specs.Direction.{is_backward}
use Rattle.shape_items.specs.Items.{Item, new_item}
use Rattle.shape_users.specs.Paragraph.{cluster_at, ShowsExactly}
use Rattle.shape_users.proofs.ParagraphLemmas.{text_exact}
use Rattle.shape_users.proofs.paragraph.text_of_glyphs.Goals as goal

-- the cluster that the code reads at a place
read : (xs ys : List Item) → xs ≡ ys → (k : ℕ) (d : Item) → k < length ys → (get_or xs k d).cluster ≡ cluster_at ys k
read xs ys same k d within =
    ap (λ (zs : List Item). (get_or zs k d).cluster) same ∙ ap (λ (x : Item). x.cluster) (get_or_default ys k d (new_item 0 0) within)

pub returns-clause-exact : goal.returns-clause-exact
returns-clause-exact c = λ ordered below.
    let xs = c.args.glyphs.now.items in
    let start = c.args.start in
    let end = c.args.end in
    let to = c.next_cluster.result in
    let same = c.glyph_infos-infos.ensures in
    let some : start < end = c.requires.some in
    let within : end ≤ length xs = c.requires.within in
    let first = read c.glyph_infos-infos.result.now xs same start c.index-infos-start.result (omega arith) in
    let last = read c.glyph_infos-infos.result.now xs same (end - 1) c.index-infos-end.result (omega arith) in
    let least_is : c.min.result ≡ min (cluster_at xs start) (cluster_at xs (end - 1)) = omega (arith, c.min.ensures, first, last) in
    let greatest_is : c.max.result ≡ max (cluster_at xs start) (cluster_at xs (end - 1)) = omega (arith, c.max.ensures, first, last) in
    let one = below start (omega arith) in
    let other = below (end - 1) (omega arith) in
    let above : max (cluster_at xs start) (cluster_at xs (end - 1)) < to = omega
    (arith, c.next_cluster.ensures.above (omega (arith, greatest_is, one, other)), greatest_is) in
    let Least : List Item → ℕ → Type 0 = λ ys greatest. (k : ℕ) → k < length ys → (cluster_at ys k ≤ greatest) ⊎ (to ≤ cluster_at ys k) in
    let least : Least xs (max (cluster_at xs start) (cluster_at xs (end - 1))) = subst (Least xs) greatest_is
    (subst (λ (ys : List Item). Least ys c.max.result) same c.next_cluster.ensures.least) in
    subst (λ (from : ℕ). ShowsExactly xs start end from to) (sym least_is)
    (text_exact xs start end to some within above least (is_backward c.args.glyphs.now.direction) ordered)
