-- The clusters of a text, one piece on.
use Rattle.std.proofs.Common.{◌≡◌, ℕ, ◌+◌, List, [], ◌∷◌, ◌++◌, length, drop, ap, ap₂, sym, ◌∙◌, append_assoc}
use Rattle.std.specs.Str.{chars}
use Rattle.ucd_script.specs.declared.Script.TheVariants.{Common}
use Rattle.text_items.specs.Clusters.{cluster_by, clusters_from, first_of, first_level}
use Rattle.text_items.specs.Presentations.{of_cluster}
use Rattle.text_items.specs.Ranges.{number_at}
use Rattle.text_items.specs.Scripts.{own_script}
use Rattle.text_items.specs.declared.clusters.Cluster.{Cluster}
use Rattle.text_items.specs.declared.ranges.NumberedRange.{NumberedRange}

same_numbers : (levels : List ℕ) (languages langs features feats : List NumberedRange) (start end : ℕ) (letters : List ℕ)
    → number_at langs start ≡ number_at languages start → number_at feats start ≡ number_at features start
    → cluster_by levels langs feats start end letters ≡ cluster_by levels languages features start end letters
same_numbers levels languages langs features feats start end letters same_language same_features =
    ap₂ (λ l f. record {
      start = start;
      end = end;
      first = first_of letters;
      script = own_script letters;
      next = Common;
      level = first_level levels;
      presentation = of_cluster letters;
      language = l;
      features = f;
    }) same_language same_features

-- a cluster that is made by the ranges that have not ended, put after those that are done
pub cluster_on : (levels next : List ℕ) (languages langs features feats : List NumberedRange) (start : ℕ) (piece letters : List ℕ)
    (pieces rest : List (List ℕ)) (made : Cluster) (done : List Cluster)
    → pieces ≡ piece ∷ rest → letters ≡ chars piece → next ≡ drop (length letters) levels
    → made ≡ cluster_by levels langs feats start (start + length piece) letters
    → number_at langs start ≡ number_at languages start → number_at feats start ≡ number_at features start
    → (done ++ made ∷ []) ++ clusters_from next languages features (start + length piece) rest
    ≡ done ++ clusters_from levels languages features start pieces
cluster_on levels next languages langs features feats start piece letters pieces rest made done is_pieces is_letters is_next is_made same_language same_features =
    let end = start + length piece in
    let is_cluster : made ≡ cluster_by levels languages features start end (chars piece) =
    is_made ∙ same_numbers levels languages langs features feats start end letters same_language same_features
    ∙ ap (cluster_by levels languages features start end) is_letters in
    let is_left : next ≡ drop (length (chars piece)) levels = is_next ∙ ap (λ l. drop (length l) levels) is_letters in
    append_assoc done (made ∷ []) (clusters_from next languages features end rest)
    ∙ ap (λ l. done ++ l)
    (ap₂ (λ m n. m ∷ clusters_from n languages features end rest) is_cluster is_left
    ∙ ap (clusters_from levels languages features start) (sym is_pieces))
