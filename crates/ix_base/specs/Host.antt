-- What a host means, and what its calls do to that.
use Rattle.std.specs.Prelude.{◌≡◌, ◌≤◌, ◌-◌, ◌+◌, ◌^◌, ℕ, min, List, [], take, Bool, IsTrue, Result, Ok, Err, Option}
use Rattle.std.specs.Io.KnownBytes.{prepend_known, append_known}
use Rattle.ix_base.specs.declared.role.Role.{Role}
use Rattle.ix_base.specs.declared.role.Kind.{Kind}
use Rattle.ix_base.specs.declared.role.Kind.TheVariants.{Reading, Writing}
use Rattle.ix_base.specs.Role.{kind_of, other_kind, SameBut}

pub record State : Type 0 where
  -- the bytes that a role that is read has left, where the host tells them
  pub left : Role → Option (List ℕ)
  -- the bytes that a role that is written holds, where the host tells them
  pub written : Role → Option (List ℕ)
  pub is_attached : Role → Bool
  -- how often a call on a role of this kind has failed
  pub faults : Kind → ℕ

-- A count has risen, or stands at its end.
abbrev pub Rose : ℕ → ℕ → Type 0
Rose before now = min (before + 1) (2 ^ 64 - 1) ≤ now

-- a call or a run of calls on roles of this kind
pub record Counts (kind : Kind) (old new : State) : Type 0 where
  pub later : old.faults kind ≤ new.faults kind
  pub other : new.faults (other_kind kind) ≡ old.faults (other_kind kind)

-- A role is prepared, or is not.
pub record Attaches (role : Role) (old new : State) : Type 0 where
  pub left : new.left ≡ old.left
  pub written : new.written ≡ old.written
  pub others_attached : SameBut role old.is_attached new.is_attached
  pub kept : (r : Role) → IsTrue (old.is_attached r) → IsTrue (new.is_attached r)
  pub counts : Counts (kind_of role) old new

-- These bytes of a role are read.
pub record Reads (role : Role) (bytes : List ℕ) (old new : State) : Type 0 where
  pub taken : old.left role ≡ prepend_known bytes (new.left role)
  pub others : SameBut role old.left new.left
  pub written : new.written ≡ old.written
  pub others_attached : SameBut role old.is_attached new.is_attached
  pub kept : (r : Role) → IsTrue (old.is_attached r) → IsTrue (new.is_attached r)
  pub counts : Counts Reading old new

-- These bytes are appended to a role.
pub record Writes (role : Role) (bytes : List ℕ) (old new : State) : Type 0 where
  pub appended : new.written role ≡ append_known (old.written role) bytes
  pub others : SameBut role old.written new.written
  pub left : new.left ≡ old.left
  pub others_attached : SameBut role old.is_attached new.is_attached
  pub kept : (r : Role) → IsTrue (old.is_attached r) → IsTrue (new.is_attached r)
  pub counts : Counts Writing old new

-- the front of the bytes that a call counted, none where it failed
abbrev pub front : {E : Type 0} → Result ℕ E → List ℕ → List ℕ
front (Ok n) bytes = take n bytes
front (Err e) bytes = []
