use Rattle.std.proofs.Common.{◌≡◌, ◌≢◌, ◌==◌, true, false, sym, ◌∙◌, bit_and, rules}
use Rattle.shape_common.specs.declared.text_types.BufferClusterLevel.TheVariants.{MonotoneGraphemes}
use Rattle.shape_prepare.specs.ClustersFormed.{clusters_formed}
use Rattle.shape_prepare.proofs.StepLemmas.{Made-same, clusters_formed-unseen, clusters_formed-merged, clusters_formed-marked}
use Rattle.shape_prepare.proofs.clusters.form_clusters.Goals as goal

pub returns-then-not-contains : goal.returns-then-not-contains
returns-then-not-contains c =
    let unseen : (bit_and c.args.buffer.now.scratch_flags.0 1 == 1) ≡ false = search rules in
    Made-same clusters_formed c.args.buffer.now (clusters_formed-unseen c.args.buffer.now unseen)

pub returns-then-eq : goal.returns-then-eq
returns-then-eq c =
    let seen : (bit_and c.args.buffer.now.scratch_flags.0 1 == 1) ≡ true = search rules in
    let level : c.args.buffer.now.cluster_level ≡ MonotoneGraphemes = search rules in
    record {
      made = c.merge_graphemes.ensures.made
          ∙ sym (clusters_formed-merged c.args.buffer.now seen level);
      no_longer =
          c.merge_graphemes.ensures.no_longer;
      same_limit = c.merge_graphemes.ensures.same_limit;
    }

pub returns-else-eq : goal.returns-else-eq
returns-else-eq c =
    let seen : (bit_and c.args.buffer.now.scratch_flags.0 1 == 1) ≡ true = search rules in
    let level : c.args.buffer.now.cluster_level ≢ MonotoneGraphemes = search rules in
    record {
      made = c.mark_graphemes.ensures.made
          ∙ sym (clusters_formed-marked c.args.buffer.now seen level);
      no_longer =
          c.mark_graphemes.ensures.no_longer;
      same_limit = c.mark_graphemes.ensures.same_limit;
    }
