use Rattle.std.proofs.Common.{sym, subst, refl, ap, ◌∙◌}
use Rattle.std.proofs.lemmas.Bool.{false≢true}
use Rattle.word_cache.specs.Words.{Words, HasKey, Keeps, entry, made, brought_first}
use Rattle.word_cache.proofs.spelling.shape_spelling.Goals as goal

pub returns-then-find-clause-found : goal.returns-then-find-clause-found
returns-then-find-clause-found g c =
    (λ _. subst (λ k. HasKey k c.args.cache.now.entries) c.in_ok-key.ensures (c.find.ensures.found.0 c.if-find.true), λ _. refl)

pub returns-then-find-clause-known : goal.returns-then-find-clause-known
returns-then-find-clause-known g c = λ _.
    c.find.ensures.first ∙ ap (λ k. made (brought_first k c.args.cache.now.entries) c.args.cache.now.limit) c.in_ok-key.ensures

pub returns-clause-found : goal.returns-clause-found
returns-clause-found g c = (
  λ none. absurd (false≢true none),
  λ has. sym c.if-find.false ∙ c.find.ensures.found.1 (subst (λ k. HasKey k c.args.cache.now.entries) (sym c.in_ok-key.ensures) has),
)

pub returns-clause-fresh : goal.returns-clause-fresh
returns-clause-fresh g c = λ _.
    let is = c.in_ok-key.ensures in
    let key = c.in_ok-key.key.items in
    let word = c.in_ok-word.word in
    let same = c.find.ensures.absent c.if-find.false in
    let kept = c.in_ok-keep.ensures.kept (λ has. false≢true (sym c.if-find.false
    ∙ c.find.ensures.found.1 (subst (λ (w : Words). HasKey key w.entries) same has))) in
    record {
      word = word;
      is_given = c.in_ok-word.ensures;
      kept = subst (λ k. Keeps (entry k word) c.args.cache.now c.keep.new.self) is
          (subst (λ (w : Words). Keeps (entry key word) w c.keep.new.self) same kept);
    }
