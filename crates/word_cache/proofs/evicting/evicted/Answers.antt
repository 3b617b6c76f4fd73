use Rattle.std.proofs.Common.{◌≡◌, ℕ, ◌+◌, ◌-◌, ◌<◌, Vec, Global, length, take, sym, ap, subst, ◌∙◌, arith}
use Rattle.std.proofs.lemmas.List.{length-take-le}
use Rattle.lru.specs.LruCache.{LruCache}
use Rattle.word_cache.specs.Words.{shown, total}
use Rattle.word_cache.specs.declared.words.Word.{Word}
use Rattle.word_cache.proofs.TotalLemmas.{total-last, no_last, shown-take, take-less}
use Rattle.word_cache.proofs.evicting.evicted.Goals as goal
use Rattle.word_cache.proofs.evicting.evicted.Goals.{in-Some, in_default}

pub overflow_sub-bytes : goal.overflow_sub-bytes
overflow_sub-bytes c =
    let es = c.loop-count.words.entries in
    let some = c.loop-count.invariant.counted in
    let test = c.loop-count-test.true in
    let all = total-last es (c.in-Some.key, c.in-Some.word) (omega arith) c.in-Some.ensures.value in
    omega (arith, all, c.bytes_of-bytes.ensures.value, c.loop-count.invariant.bytes_are)

pub loop-count-preserved : goal.loop-count-preserved
loop-count-preserved c =
    let es = c.loop-count.words.entries in
    let all = shown c.args.words.now.entries in
    let n = c.loop-count.count in
    let counted = c.loop-count.invariant.counted in
    let more = c.loop-count-test.true in
    let some : 0 < length es = omega arith in
    let new_is = ap (λ (w : LruCache (Vec ℕ Global) Word). w.entries) c.pop_lru.ensures.entries in
    let new_bytes = ap (λ l. total (shown l)) new_is in
    let long = ap length new_is ∙ length-take-le (length es - 1) es (omega arith) in
    let now : total (shown es) ≡ total (take n all) = ap total c.loop-count.invariant.is in
    record {
      counted = omega arith;
      within = let le = c.loop-count.invariant.within in omega arith;
      is = ap shown new_is
          ∙ shown-take (length es - 1) es
          ∙ ap (λ k. take (k - 1) (shown es)) (sym counted)
          ∙ ap (take (n - 1)) c.loop-count.invariant.is
          ∙ take-less (n - 1) n all (omega arith);
      bytes_are = elim c.match-pop_lru.branch [
        | in-Some w ↦
            let whole = total-last es (w.in-Some.key, w.in-Some.word) some w.in-Some.ensures.value in
            omega (arith, whole, new_bytes, w.bytes-is, w.bytes_of-bytes.ensures.value, c.loop-count.invariant.bytes_are)
        | in_default w ↦ absurd (no_last es some (sym w.in_default.is ∙ c.pop_lru.ensures.value))
      ];
      most = λ lt.
          let same : n - 1 + 1 ≡ n = omega arith in (
            omega arith,
            subst (λ k. c.args.limit < total (take k all)) (sym same)
                (omega (arith, now, c.loop-count.invariant.bytes_are, c.from.ensures, c.if-bytes-from.true)),
          );
      cap = ap (λ (w : LruCache (Vec ℕ Global) Word). w.cap) c.pop_lru.ensures.entries ∙ c.loop-count.invariant.cap;
    }
