-- What a host over files means: which roles are attached and two counts of faults, and no content.
use Rattle.std.specs.Prelude.{◌≡◌, Bool, false, None, is_some}
use Rattle.ix_base.specs.declared.file.FileHost.{FileHost}
use Rattle.ix_base.specs.Sink.{is_open}
use Rattle.ix_base.specs.Faults.{fault_count}
use Rattle.ix_base.specs.Host.{State}
use Rattle.ix_base.specs.declared.role.Role.{Role}
use Rattle.ix_base.specs.declared.role.Role.TheVariants.{Conf, Capture, Script, GivenTrace, GivenReplies, Other, Replies, Trace, Played}

abbrev pub file_attached : {R F D : Type 0} → FileHost R F D → Role → Bool
file_attached h Conf = is_some h.conf
file_attached h Capture = is_some h.capture
file_attached h Script = is_some h.script
file_attached h GivenTrace = is_some h.given_trace
file_attached h GivenReplies = is_some h.given_replies
file_attached h Other = is_some h.other
file_attached h Replies = is_open h.replies
file_attached h Trace = is_open h.trace
file_attached h Played = is_open h.played

abbrev pub file_state : {R F D : Type 0} → FileHost R F D → State
file_state h = record { left = λ _. None; written = λ _. None; is_attached = file_attached h; faults = fault_count h.faults }

-- No role is attached and no fault is counted.
pub record IsNew {R F D : Type 0} (h : FileHost R F D) : Type 0 where
  pub attached : (role : Role) → file_attached h role ≡ false
  pub reading : h.faults.reading ≡ 0
  pub writing : h.faults.writing ≡ 0
