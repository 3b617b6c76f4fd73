use Rattle.std.proofs.Common.{ℕ, ◌-◌, ◌≤◌, ◌∷◌, Vec, Global, length, sym, ap, subst, ◌∙◌, arith}
use Rattle.std.proofs.lemmas.Bool.{false≢true}
use Rattle.lru.specs.LruCache.{LruCache}
use Rattle.word_cache.specs.Words.{Words, entry, shown, total, HasKey, IsFront}
use Rattle.word_cache.specs.declared.words.Word.{Word}
use Rattle.word_cache.proofs.KeyLemmas.{has_from, from_has, put-absent}
use Rattle.word_cache.proofs.TotalLemmas.{front-bytes}
use Rattle.word_cache.proofs.words.WordCache.keep.Goals as goal

pub returns-then-contains-clause-kept : goal.returns-then-contains-clause-kept
returns-then-contains-clause-kept c = λ absent.
    let seen = ap (λ (w : Words). w.entries) c.self.view_is in
    absurd (absent (subst (HasKey c.args.key.items) seen (has_from c.args.key.items c.self.inside.words.entries (sym c.contains.ensures ∙ c.if-contains.true))))

pub evicted-self-inside-requires-clause-count : goal.evicted-self-inside-requires-clause-count
evicted-self-inside-requires-clause-count c =
    let es = c.self.inside.words.entries in
    let few : length es ≤ c.self.inside.words.cap - 1 = omega (arith, c.self.invariant.2, c.len-count.ensures.len, c.len-count.ensures.fits) in
    let is = ap (λ (w : LruCache (Vec ℕ Global) Word). w.entries) c.in_ok-put.ensures.entries
    ∙ put-absent c.self.inside.words c.args.key c.args.word (sym c.contains.ensures ∙ c.if-contains.false) few in
    let long = ap length is in
    omega (arith, c.len-count.ensures.len, long)

pub evicted-self-inside-requires-clause-bytes : goal.evicted-self-inside-requires-clause-bytes
evicted-self-inside-requires-clause-bytes c =
    let es = c.self.inside.words.entries in
    let few : length es ≤ c.self.inside.words.cap - 1 = omega (arith, c.self.invariant.2, c.len-count.ensures.len, c.len-count.ensures.fits) in
    let is = ap (λ (w : LruCache (Vec ℕ Global) Word). w.entries) c.in_ok-put.ensures.entries
    ∙ put-absent c.self.inside.words c.args.key c.args.word (sym c.contains.ensures ∙ c.if-contains.false) few in
    let all = ap (λ l. total (shown l)) is in
    omega (arith, all, c.bytes_of.ensures.value, c.self.invariant.0)

pub invariant_of-self-2 : goal.invariant_of-self-2
invariant_of-self-2 c =
    let es = c.self.inside.words.entries in
    let few : length es ≤ c.self.inside.words.cap - 1 = omega (arith, c.self.invariant.2, c.len-count.ensures.len, c.len-count.ensures.fits) in
    let is = ap (λ (w : LruCache (Vec ℕ Global) Word). w.entries) c.in_ok-put.ensures.entries
    ∙ put-absent c.self.inside.words c.args.key c.args.word (sym c.contains.ensures ∙ c.if-contains.false) few in
    let front = subst (λ l. IsFront c.self.inside.limit l (shown c.evicted-self-inside.new.words.entries)) (ap shown is) c.evicted-self-inside.ensures.front in
    let small = front-bytes c.self.inside.limit (entry c.args.key.items c.args.word) (shown es) (shown c.evicted-self-inside.new.words.entries) front in (
      c.evicted-self-inside.ensures.bytes,
      omega (arith, small, c.evicted-self-inside.ensures.bytes, c.bytes_of.ensures.value, c.bytes_of.ensures.few, c.self.ranges.1.1.0.1),
      c.evicted-self-inside.ensures.cap ∙ ap (λ (w : LruCache (Vec ℕ Global) Word). w.cap) c.in_ok-put.ensures.entries ∙ c.self.invariant.2,
    )

pub returns-clause-known : goal.returns-clause-known
returns-clause-known c = λ has.
    let seen = ap (λ (w : Words). w.entries) c.self.view_is in
    absurd (false≢true (sym c.if-contains.false ∙ c.contains.ensures
    ∙ from_has c.args.key.items c.self.inside.words.entries (subst (HasKey c.args.key.items) (sym seen) has)))

pub returns-clause-kept : goal.returns-clause-kept
returns-clause-kept c = λ absent.
    let es = c.self.inside.words.entries in
    let few : length es ≤ c.self.inside.words.cap - 1 = omega (arith, c.self.invariant.2, c.len-count.ensures.len, c.len-count.ensures.fits) in
    let is = ap (λ (w : LruCache (Vec ℕ Global) Word). w.entries) c.in_ok-put.ensures.entries
    ∙ put-absent c.self.inside.words c.args.key c.args.word (sym c.contains.ensures ∙ c.if-contains.false) few in
    let kept = shown c.evicted-self-inside.new.words.entries in
    let front = subst (λ l. IsFront c.self.inside.limit l kept) (ap shown is) c.evicted-self-inside.ensures.front in
    record {
      front = subst (λ (w : Words). IsFront w.limit (entry c.args.key.items c.args.word ∷ w.entries) kept) c.self.view_is front;
      limit = ap (λ (w : Words). w.limit) c.self.view_is;
    }
