use Rattle.std.proofs.Common.{length, ◌≤◌, arith}
use Rattle.shape_font.specs.Names.{string_start, strings_at}
use Rattle.shape_text_forms.proofs.StartLemmas.{string_start_stays}
use Rattle.shape_text_forms.proofs.opened_names.string_starts.Goals as goal

pub returns-then-post-start : goal.returns-then-post-start
returns-then-post-start c =
    let inv = c.loop-k.invariant in
    let at = strings_at c.args.post.now in
    let end : length c.args.post.now ≤ string_start c.args.post.now c.loop-k._k at = grind (arith, inv.here, c.if-post-start.true) in
    record {
      stored = inv.stored;
      past = λ k low high. string_start_stays c.args.post.now c.loop-k._k k at (omega (arith, inv.so_far, low)) end;
      short = omega (arith, inv.so_far, inv.short);
      few = omega (arith, inv.so_far, c.loop-k-test.true);
    }
