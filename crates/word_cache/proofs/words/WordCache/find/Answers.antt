use Rattle.std.proofs.Common.{ℕ, Vec, Global, sym, ap, subst, ◌∙◌}
use Rattle.lru.specs.LruCache.{LruCache}
use Rattle.word_cache.specs.Words.{Words, made, shown, total, brought_first, HasKey}
use Rattle.word_cache.specs.declared.words.Word.{Word}
use Rattle.word_cache.proofs.KeyLemmas.{has_from, from_has, shown-promoted, total-brought, brought-none}
use Rattle.word_cache.proofs.words.WordCache.find.Goals as goal

pub invariant_of-self : goal.invariant_of-self
invariant_of-self c =
    let key = c.args.key.now.items in
    let es = c.self.inside.words.entries in
    let is = ap (λ (w : LruCache (Vec ℕ Global) Word). shown w.entries) c.promote.ensures.entries ∙ shown-promoted key es in (
      c.self.invariant.0 ∙ sym (ap total is ∙ total-brought key (shown es)),
      c.self.invariant.1,
      ap (λ (w : LruCache (Vec ℕ Global) Word). w.cap) c.promote.ensures.entries ∙ c.self.invariant.2,
    )

pub returns-clause-found : goal.returns-clause-found
returns-clause-found c =
    let key = c.args.key.now.items in
    let es = c.self.inside.words.entries in
    let seen = ap (λ (w : Words). w.entries) c.self.view_is in (
      λ is. subst (HasKey key) seen (has_from key es (sym c.promote.ensures.value ∙ is)),
      λ has. c.promote.ensures.value ∙ from_has key es (subst (HasKey key) (sym seen) has),
    )

pub returns-clause-first : goal.returns-clause-first
returns-clause-first c =
    let key = c.args.key.now.items in
    let es = c.self.inside.words.entries in
    let is = ap (λ (w : LruCache (Vec ℕ Global) Word). shown w.entries) c.promote.ensures.entries ∙ shown-promoted key es in
    ap (λ l. made l c.self.inside.limit) is ∙ ap (λ (w : Words). made (brought_first key w.entries) w.limit) c.self.view_is

pub returns-clause-absent : goal.returns-clause-absent
returns-clause-absent c = λ none.
    let key = c.args.key.now.items in
    let es = c.self.inside.words.entries in
    let is = ap (λ (w : LruCache (Vec ℕ Global) Word). shown w.entries) c.promote.ensures.entries ∙ shown-promoted key es in
    ap (λ l. made l c.self.inside.limit) (is ∙ brought-none key es (sym c.promote.ensures.value ∙ none)) ∙ c.self.view_is
