-- What a host in memory means.
use Rattle.std.specs.Prelude.{◌≡◌, ◌+◌, ◌-◌, ◌^◌, ℕ, min, List, [], ◌∷◌, Option, Some, None, unwrap_or, Bool, true, false, if◌then◌else◌, Contains}
use Rattle.ix_base.specs.declared.mem.MemHost.{MemHost}
use Rattle.ix_base.specs.declared.role.Role.{Role}
use Rattle.ix_base.specs.declared.role.Role.TheVariants.{Conf, Capture, Script, GivenTrace, GivenReplies, Other, Replies, Trace, Played}
use Rattle.ix_base.specs.Role.{IsRead, IsWritten}
use Rattle.ix_base.specs.Input.{input_left}
use Rattle.ix_base.specs.Faults.{fault_count}
use Rattle.ix_base.specs.Host.{State}

abbrev pub mem_left : MemHost → Role → Option (List ℕ)
mem_left m Conf = Some (input_left m.conf)
mem_left m Capture = Some (input_left m.capture)
mem_left m Script = Some (input_left m.script)
mem_left m GivenTrace = Some (input_left m.given_trace)
mem_left m GivenReplies = Some (input_left m.given_replies)
mem_left m Other = Some (input_left m.other)
mem_left m Replies = None
mem_left m Trace = None
mem_left m Played = None

abbrev pub mem_written : MemHost → Role → Option (List ℕ)
mem_written m Conf = None
mem_written m Capture = None
mem_written m Script = None
mem_written m GivenTrace = None
mem_written m GivenReplies = None
mem_written m Other = None
mem_written m Replies = Some m.replies.bytes.items
mem_written m Trace = Some m.trace.bytes.items
mem_written m Played = Some m.played.bytes.items

abbrev pub mem_attached : MemHost → Role → Bool
mem_attached m Conf = m.conf.attached
mem_attached m Capture = m.capture.attached
mem_attached m Script = m.script.attached
mem_attached m GivenTrace = m.given_trace.attached
mem_attached m GivenReplies = m.given_replies.attached
mem_attached m Other = m.other.attached
mem_attached m Replies = m.replies.attached
mem_attached m Trace = m.trace.attached
mem_attached m Played = m.played.attached

abbrev pub mem_state : MemHost → State
mem_state m = record { left = mem_left m; written = mem_written m; is_attached = mem_attached m; faults = fault_count m.faults }

-- the bytes that a role that is read has left
abbrev pub left_bytes : MemHost → Role → List ℕ
left_bytes m role = unwrap_or (mem_left m role) []

-- the bytes of a role that is written
abbrev pub written_bytes : MemHost → Role → List ℕ
written_bytes m role = unwrap_or (mem_written m role) []

-- the room that is left in a role that is written
abbrev pub room_left : MemHost → Role → ℕ
room_left m Conf = 0
room_left m Capture = 0
room_left m Script = 0
room_left m GivenTrace = 0
room_left m GivenReplies = 0
room_left m Other = 0
room_left m Replies = m.replies.room
room_left m Trace = m.trace.room
room_left m Played = m.played.room

-- the number of the next call
abbrev pub call_number : MemHost → ℕ
call_number m = m.calls

-- the next call's number is among those that fail
abbrev pub IsRefused : MemHost → Type 0
IsRefused m = Contains m.fail.items m.calls

-- A call is counted, and the numbers that fail stay.
pub record CountsCall (old new : MemHost) : Type 0 where
  pub number : new.calls ≡ min (old.calls + 1) (2 ^ 64 - 1)
  pub fail : new.fail ≡ old.fail

abbrev pub is_role : Role → Role → Bool
is_role Conf Conf = true
is_role Conf Capture = false
is_role Conf Script = false
is_role Conf GivenTrace = false
is_role Conf GivenReplies = false
is_role Conf Other = false
is_role Conf Replies = false
is_role Conf Trace = false
is_role Conf Played = false
is_role Capture Conf = false
is_role Capture Capture = true
is_role Capture Script = false
is_role Capture GivenTrace = false
is_role Capture GivenReplies = false
is_role Capture Other = false
is_role Capture Replies = false
is_role Capture Trace = false
is_role Capture Played = false
is_role Script Conf = false
is_role Script Capture = false
is_role Script Script = true
is_role Script GivenTrace = false
is_role Script GivenReplies = false
is_role Script Other = false
is_role Script Replies = false
is_role Script Trace = false
is_role Script Played = false
is_role GivenTrace Conf = false
is_role GivenTrace Capture = false
is_role GivenTrace Script = false
is_role GivenTrace GivenTrace = true
is_role GivenTrace GivenReplies = false
is_role GivenTrace Other = false
is_role GivenTrace Replies = false
is_role GivenTrace Trace = false
is_role GivenTrace Played = false
is_role GivenReplies Conf = false
is_role GivenReplies Capture = false
is_role GivenReplies Script = false
is_role GivenReplies GivenTrace = false
is_role GivenReplies GivenReplies = true
is_role GivenReplies Other = false
is_role GivenReplies Replies = false
is_role GivenReplies Trace = false
is_role GivenReplies Played = false
is_role Other Conf = false
is_role Other Capture = false
is_role Other Script = false
is_role Other GivenTrace = false
is_role Other GivenReplies = false
is_role Other Other = true
is_role Other Replies = false
is_role Other Trace = false
is_role Other Played = false
is_role Replies Conf = false
is_role Replies Capture = false
is_role Replies Script = false
is_role Replies GivenTrace = false
is_role Replies GivenReplies = false
is_role Replies Other = false
is_role Replies Replies = true
is_role Replies Trace = false
is_role Replies Played = false
is_role Trace Conf = false
is_role Trace Capture = false
is_role Trace Script = false
is_role Trace GivenTrace = false
is_role Trace GivenReplies = false
is_role Trace Other = false
is_role Trace Replies = false
is_role Trace Trace = true
is_role Trace Played = false
is_role Played Conf = false
is_role Played Capture = false
is_role Played Script = false
is_role Played GivenTrace = false
is_role Played GivenReplies = false
is_role Played Other = false
is_role Played Replies = false
is_role Played Trace = false
is_role Played Played = true

-- the first file of a role, or these bytes where there is none
abbrev pub file_or : List ℕ → Role → List (Role × List ℕ) → List ℕ
file_or none role [] = none
file_or none role (file ∷ files) = if is_role file.0 role then file.1 else file_or none role files

-- Nothing is read, written or attached yet, and no call is counted.
pub record IsFresh (contents : Role → List ℕ) (capacity : ℕ) (refused : List ℕ) (m : MemHost) : Type 0 where
  pub left : (role : Role) → IsRead role → mem_left m role ≡ Some (contents role)
  pub written : (role : Role) → IsWritten role → mem_written m role ≡ Some []
  pub room : (role : Role) → IsWritten role → room_left m role ≡ capacity
  pub attached : (role : Role) → mem_attached m role ≡ false
  pub calls : call_number m ≡ 0
  pub fail : m.fail.items ≡ refused
  pub reading : m.faults.reading ≡ 0
  pub writing : m.faults.writing ≡ 0

-- A file is put into its role, if that is read.
pub record Places (role : Role) (bytes : List ℕ) (old new : MemHost) : Type 0 where
  pub left : (r : Role) → IsRead r → mem_left new r ≡ Some (if is_role role r then bytes else left_bytes old r)
  pub attached : (r : Role) → mem_attached old r ≡ false → mem_attached new r ≡ false
  pub replies : new.replies ≡ old.replies
  pub trace : new.trace ≡ old.trace
  pub played : new.played ≡ old.played
  pub fail : new.fail ≡ old.fail
  pub calls : new.calls ≡ old.calls
  pub faults : new.faults ≡ old.faults

-- Files are put into a fresh host: of several files of a role the first counts, and a role without one keeps what it has.
pub record Fills (files : List (Role × List ℕ)) (old new : MemHost) : Type 0 where
  pub fresh : (contents : Role → List ℕ) (capacity : ℕ) (refused : List ℕ) → IsFresh contents capacity refused old
      → IsFresh (λ role. file_or (contents role) role files) capacity refused new
