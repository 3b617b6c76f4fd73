use Rattle.std.proofs.Common.{◌≡◌, ◌<◌, ◌≤◌, ◌+◌, ◌*◌, ℕ, length, slice_index}
use Rattle.shape_font.specs.Names.{string_start, strings_at}
use Rattle.shape_text_forms.proofs.opened_names.string_starts.Given as goal

abbrev pub invariant-loop-k : goal.invariant-loop-k
invariant-loop-k l = record {
  so_far : length l.starts.items ≡ l._k;
  here : l.start ≡ string_start l.post l._k (strings_at l.post);
  stored : (k : ℕ) → k < length l.starts.items → slice_index l.starts.items k ≡ string_start l.post k (strings_at l.post);
  rising : strings_at l.post + l._k ≤ l.start;
  near : l.start ≤ strings_at l.post + 256 * l._k;
  short : l._k ≤ length l.post;
}
