-- What is out between cycles, and that it only shrinks but for a cycle's own frames.
use Rattle.std.specs.Prelude.{◌≡◌, ℕ, ◌+◌, ◌≤◌, Bool, true, false, ◌&&◌, ◌||◌, if◌then◌else◌, List, [], ◌∷◌, ◌++◌, sum_by}
use Rattle.std.specs.List.{AllByRecursion}
use Rattle.ix_tcpdef.specs.declared.types.Connection.{Connection}
use Rattle.ix_tcpdef.specs.declared.types.HeldSegment.{HeldSegment}
use Rattle.ix_groupdef.specs.declared.types.Taken.{Taken}
use Rattle.ix_groupdef.specs.Setting.{Setting}
use Rattle.ix_groupdef.specs.Life.{Life, lives}
use Rattle.ix_groupdef.specs.Group.{Group, Cycle, Connect, run}
use Rattle.ix_groupdef.specs.Places.{accepted, frames_of, RiseFrom}
use Rattle.ix_groupdef.specs.Owners.{Ended, told_parts, is_with_app, is_queued}

-- a part that ends here is out while the application has it, and then while it is queued
abbrev pub is_out : Connection → ℕ → Bool
is_out w end = is_with_app w end || is_queued w end

abbrev pub part_out : (ℕ → ℕ) → Connection → Ended → ℕ
part_out f w p = if is_out w p.end then f p.w.0 else 0

-- The weights of the wire numbers that a connection has out, added up: those of its held segments, and where parts are sent whole and it
-- lives, those of its told parts that are out.
abbrev pub out_of : (ℕ → ℕ) → Bool → Life → ℕ
out_of f whole l =
    sum_by (λ (h : HeldSegment). f h.w.0) l.connection.held
    + (if whole && lives l then sum_by (part_out f l.connection) (told_parts l.connection) else 0)

abbrev pub out_weight : (ℕ → ℕ) → Bool → Group → ℕ
out_weight f whole g = sum_by (out_of f whole) g.lives

-- ## Laws
-- The parts of a connection that lives were told: one that was not accepted has none.
pub record HasTold (l : Life) : Type 0 where
  pub none : lives l ≡ true → l.connection.accepted ≡ false → l.connection.pieces ≡ []

-- So it is between cycles, where nothing is answered before anything was told.
abbrev pub AllTold : Type 0
AllTold = (env : Setting) → env.answer false [] ≡ [] → (asked : List Connect) (cs : List Cycle) → AllByRecursion HasTold (run env asked cs).lives

-- For every weight: with 1 for one wire number and 0 for all others it says that what is out after one more cycle was out before, or is of
-- that cycle's frames, and that nothing is out twice.
abbrev pub OutShrinks : Type 0
OutShrinks =
    (env : Setting) → env.answer false [] ≡ [] → (asked : List Connect) (cs : List Cycle) (c : Cycle) → RiseFrom 0 (accepted (cs ++ c ∷ []))
    → (whole : Bool) (f : ℕ → ℕ) → out_weight f whole (run env asked (cs ++ c ∷ [])) ≤ out_weight f whole (run env asked cs) + sum_by (λ (t : Taken). f t.w.0) (frames_of c)
