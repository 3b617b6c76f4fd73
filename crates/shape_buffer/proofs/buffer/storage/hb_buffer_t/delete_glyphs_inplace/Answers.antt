use Rattle.std.proofs.Common.{ap, refl, ◌∙◌}
use Rattle.shape_items.specs.Delete.{deleted}
use Rattle.shape_buffer.specs.contracts.buffer.storage.hb_buffer_t.{the_view}
use Rattle.shape_items.proofs.Deletion.DeletePreserves.{deleted_preserves}
use Rattle.shape_buffer.proofs.buffer.storage.hb_buffer_t.delete_glyphs_inplace.Goals as goal

pub returns-clause-deleted : goal.returns-clause-deleted
returns-clause-deleted g c =
    λ picks tells. c.delete_items.ensures.deleted picks tells (the_view c.self.inside) refl ∙ ap (deleted picks) c.self.view_is

pub returns-clause-preserves : goal.returns-clause-preserves
returns-clause-preserves g c =
    λ picks tells. deleted_preserves picks c.args.self.now _
    (c.delete_items.ensures.deleted picks tells (the_view c.self.inside) refl ∙ ap (deleted picks) c.self.view_is)
