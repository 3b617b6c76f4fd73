use Rattle.std.proofs.Common.{◌≡◌, ◌-◌, max}
use Rattle.shape_font.specs.Bytes.{u16_of, fitting}
use Rattle.layout_matching.specs.Loops.{along}
use Rattle.layout_positions.specs.Devices.{columns_of, most_columns}
use Rattle.layout_positions.proofs.devices.most_columns.Given as goal

-- the most of those before and of the sets from here on is the most of all
abbrev pub invariant-loop-outer : goal.invariant-loop-outer
invariant-loop-outer l =
    most_columns l.store
    ≡ along (λ outer most. max most (columns_of l.store outer)) (fitting l.store (u16_of l.store 6) 8 4 - l.outer) l.outer l.most
