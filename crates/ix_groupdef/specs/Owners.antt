-- Which buffers a group's connections own between cycles, by their homes. The home of a buffer is that of the accepted frame that it holds.
use Rattle.std.specs.Prelude.{ℕ, ◌+◌, ◌-◌, Bool, true, false, nat_lt, nat_le, ◌==◌, ◌&&◌, if◌then◌else◌, List, [], ◌∷◌, length, count_by, sum_by}
use Rattle.ix_base.specs.declared.id.CoreId.{CoreId}
use Rattle.ix_base.specs.declared.id.Owned.{Owned}
use Rattle.ix_base.specs.declared.id.WireNo.{WireNo}
use Rattle.ix_tcpdef.specs.Delivered.{told_pieces}
use Rattle.ix_tcpdef.specs.declared.types.Connection.{Connection}
use Rattle.ix_tcpdef.specs.declared.types.HeldSegment.{HeldSegment}
use Rattle.ix_tcpdef.specs.declared.types.Piece.{Piece}
use Rattle.ix_appdef.specs.declared.application.Application.{Application}
use Rattle.ix_appdef.specs.declared.application.Application.TheVariants as applications
use Rattle.ix_groupdef.specs.Life.{Life, lives}
use Rattle.ix_groupdef.specs.Group.{Group}

-- whether an application sends the parts that it was told whole, or releases each once it has read it
abbrev pub sends_parts : Application → Bool
sends_parts applications.Echo = true
sends_parts applications.Kv = false
sends_parts (applications.Push text) = false

-- ## Parts
-- a told part with the number of bytes that were told up to its end
pub record Ended : Type 0 where
  pub w : WireNo
  pub end : ℕ

abbrev pub ended_from : ℕ → List Piece → List Ended
ended_from told [] = []
ended_from told (p ∷ ps) = record { w = p.w; end = told + length p.bytes } ∷ ended_from (told + length p.bytes) ps

abbrev pub told_parts : Connection → List Ended
told_parts w = ended_from 0 (told_pieces w)

-- How many bytes were taken to be sent, and how many of them are acknowledged: the first stands at position 1.
abbrev pub taken_by : Connection → ℕ
taken_by w = length w.sent

abbrev pub acknowledged_by : Connection → ℕ
acknowledged_by w = w.una - 1

-- While a byte of a part is not taken, the application has it; then, while a byte of it is not acknowledged, it is queued.
abbrev pub is_with_app : Connection → ℕ → Bool
is_with_app w end = nat_lt (taken_by w) end

abbrev pub is_queued : Connection → ℕ → Bool
is_queued w end = nat_le end (taken_by w) && nat_lt (acknowledged_by w) end

-- ## Counts
-- of one connection, of the buffers with this home; once it has ended it owns none
abbrev pub is_at : (WireNo → CoreId) → CoreId → WireNo → Bool
is_at home core w = (home w).0 == core.0

abbrev pub held_at : (WireNo → CoreId) → CoreId → Life → ℕ
held_at home core l = count_by (λ (h : HeldSegment). is_at home core h.w) l.connection.held

abbrev pub parts_at : (Connection → ℕ → Bool) → Bool → (WireNo → CoreId) → CoreId → Life → ℕ
parts_at counts whole home core l =
    if whole && lives l
    then count_by (λ (p : Ended). is_at home core p.w && counts l.connection p.end) (told_parts l.connection)
    else 0

-- of a group whose application sends parts whole, or releases them
unfoldable pub owners_of : Bool → (WireNo → CoreId) → CoreId → Group → Owned
owners_of whole home core g =
    record {
      held = sum_by (held_at home core) g.lives;
      app = sum_by (parts_at is_with_app whole home core) g.lives;
      queue = sum_by (parts_at is_queued whole home core) g.lives;
    }
