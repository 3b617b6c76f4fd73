use Rattle.std.proofs.Common.{◌≡◌, ◌*◌, Bool, length, min, subst}
use Rattle.shape_items.specs.Buffer.{most_countable}
use Rattle.opentype_layout.specs.Digested.{IsSaid}
use Rattle.opentype_layout.proofs.DigestLemmas.{substitutes-one}
use Rattle.opentype_layout.proofs.StoredLemmas.{known_head, sets_of_lookup, walk_of}
use Rattle.opentype_layout.proofs.stage.apply_one.Goals as goal

pub look_up-requires : goal.look_up-requires
look_up-requires c =
    let t = c.args.stage.now.tables in
    let m = c.args.map.now in
    let named = c.made_ready-named.result in
    let h = c.in-Some.head in
    let head = known_head t.table.now t.positioning m.index c.args.stage.now.stored.firsts.now c.stored_at-known.result h c.stored_at-known.ensures
    c.in-Some.is in
    record {
      said = substitutes-one named (subst (λ (p : Bool). IsSaid p named) c.requires.kind c.made_ready-named.ensures.said);
      sets = λ s is. sets_of_lookup t m named.lookup s.now c.made_ready-named.ensures.value
          (c.sets_of-sets.ensures t.table.now c.requires.sets s is);
      work = walk_of t m h named.lookup (length c.args.buffer.now.items) c.steps_work_by.result c.saturating_mul-work.result head c.requires.kind
          c.made_ready-named.ensures.by c.steps_work_by.ensures
          (subst (λ n. c.saturating_mul-work.result ≡ min (n * c.steps_work_by.result) most_countable) c.len.ensures.items
          c.saturating_mul-work.ensures);
    }
