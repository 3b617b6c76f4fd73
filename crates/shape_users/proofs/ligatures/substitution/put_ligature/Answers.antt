use Rattle.std.proofs.Common.{◌+◌, length, ap, ◌∙◌, arith}
use Rattle.std.proofs.lemmas.List.{length-set}
use Rattle.std.proofs.lemmas.List.Edits.{length-remove}
use Rattle.shape_items.specs.Buffer.{Buffer}
use Rattle.shape_users.proofs.ligatures.substitution.put_ligature.Goals as goal
use Rattle.shape_items.proofs.Merging.KeyLemmas.{length-merge_clusters}

pub bounds-infos-i-2 : goal.bounds-infos-i-2
bounds-infos-i-2 c =
    let kept = ap (λ (b : Buffer). length b.items) c.merge_clusters.ensures.merged
    ∙ length-merge_clusters c.args.i (c.args.i + 2) c.args.buffer.now in
    let same = ap length c.infos-2.ensures in
    omega (arith, kept, same)

pub set_info-requires : goal.set_info-requires
set_info-requires c =
    let kept = ap (λ (b : Buffer). length b.items) c.merge_clusters.ensures.merged
    ∙ length-merge_clusters c.args.i (c.args.i + 2) c.args.buffer.now in
    omega (arith, kept)

pub remove-requires : goal.remove-requires
remove-requires c =
    let kept = ap (λ (b : Buffer). length b.items) c.merge_clusters.ensures.merged
    ∙ length-merge_clusters c.args.i (c.args.i + 2) c.args.buffer.now in
    let put = ap (λ (b : Buffer). length b.items) c.set_info.ensures in
    omega (arith, kept, simp length-set at put)

pub returns-clause-len : goal.returns-clause-len
returns-clause-len c =
    let kept = ap (λ (b : Buffer). length b.items) c.merge_clusters.ensures.merged
    ∙ length-merge_clusters c.args.i (c.args.i + 2) c.args.buffer.now in
    let put = ap (λ (b : Buffer). length b.items) c.set_info.ensures in
    let out = ap (λ (b : Buffer). length b.items) c.remove.ensures in
    omega (
      arith,
      kept,
      simp length-set at put,
      out,
      length-remove c.set_info.new.self.items (c.args.i + 1)
          (omega (arith, kept, simp length-set at put)),
    )
