-- Which frames' buffers the connections of a group own between cycles, by their wire numbers.
use Rattle.std.specs.Prelude.{ℕ, Bool, ◌&&◌, if◌then◌else◌, List, [], ◌∷◌, map}
use Rattle.std.specs.List.{flat_map}
use Rattle.ix_base.specs.declared.id.WireNo.{WireNo}
use Rattle.ix_tcpdef.specs.declared.types.Connection.{Connection}
use Rattle.ix_tcpdef.specs.declared.types.HeldSegment.{HeldSegment}
use Rattle.ix_groupdef.specs.Life.{Life, lives}
use Rattle.ix_groupdef.specs.Owners.{Ended, told_parts, is_with_app, is_queued}

-- the numbers of those parts whose end passes a test
abbrev pub numbers_where : (ℕ → Bool) → List Ended → List WireNo
numbers_where test [] = []
numbers_where test (p ∷ ps) = if test p.end then p.w ∷ numbers_where test ps else numbers_where test ps

-- of one connection: its held segments, and the parts that count where parts are sent whole and it lives
abbrev pub held_by : Life → List WireNo
held_by l = map (λ (h : HeldSegment). h.w) l.connection.held

abbrev pub parts_by : (Connection → ℕ → Bool) → Bool → Life → List WireNo
parts_by counts whole l = if whole && lives l then numbers_where (counts l.connection) (told_parts l.connection) else []

-- of all connections: held out of order, with the application, and queued to be sent
abbrev pub held_numbers : List Life → List WireNo
held_numbers ls = flat_map held_by ls

abbrev pub app_numbers : Bool → List Life → List WireNo
app_numbers whole ls = flat_map (parts_by is_with_app whole) ls

abbrev pub queue_numbers : Bool → List Life → List WireNo
queue_numbers whole ls = flat_map (parts_by is_queued whole) ls
