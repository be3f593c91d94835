-- The roles by kind.
use Rattle.std.specs.Prelude.{◌≡◌}
use Rattle.ix_base.specs.declared.role.Role.{Role}
use Rattle.ix_base.specs.declared.role.Role.TheVariants.{Conf, Capture, Script, GivenTrace, GivenReplies, Other, Replies, Trace, Played}
use Rattle.ix_base.specs.declared.role.Kind.{Kind}
use Rattle.ix_base.specs.declared.role.Kind.TheVariants.{Reading, Writing}

abbrev pub kind_of : Role → Kind
kind_of Conf = Reading
kind_of Capture = Reading
kind_of Script = Reading
kind_of GivenTrace = Reading
kind_of GivenReplies = Reading
kind_of Other = Reading
kind_of Replies = Writing
kind_of Trace = Writing
kind_of Played = Writing

abbrev pub other_kind : Kind → Kind
other_kind Reading = Writing
other_kind Writing = Reading

abbrev pub IsRead : Role → Type 0
IsRead role = kind_of role ≡ Reading

abbrev pub IsWritten : Role → Type 0
IsWritten role = kind_of role ≡ Writing

-- the two give the same for each role but this one
abbrev pub SameBut : {X : Type 0} → Role → (Role → X) → (Role → X) → Type 0
SameBut Conf old new =
    (new Capture ≡ old Capture) × (new Script ≡ old Script) × (new GivenTrace ≡ old GivenTrace) × (new GivenReplies ≡ old GivenReplies) × (new Other ≡ old Other) × (new Replies ≡ old Replies) × (new Trace ≡ old Trace) × (new Played ≡ old Played)
SameBut Capture old new =
    (new Conf ≡ old Conf) × (new Script ≡ old Script) × (new GivenTrace ≡ old GivenTrace) × (new GivenReplies ≡ old GivenReplies) × (new Other ≡ old Other) × (new Replies ≡ old Replies) × (new Trace ≡ old Trace) × (new Played ≡ old Played)
SameBut Script old new =
    (new Conf ≡ old Conf) × (new Capture ≡ old Capture) × (new GivenTrace ≡ old GivenTrace) × (new GivenReplies ≡ old GivenReplies) × (new Other ≡ old Other) × (new Replies ≡ old Replies) × (new Trace ≡ old Trace) × (new Played ≡ old Played)
SameBut GivenTrace old new =
    (new Conf ≡ old Conf) × (new Capture ≡ old Capture) × (new Script ≡ old Script) × (new GivenReplies ≡ old GivenReplies) × (new Other ≡ old Other) × (new Replies ≡ old Replies) × (new Trace ≡ old Trace) × (new Played ≡ old Played)
SameBut GivenReplies old new =
    (new Conf ≡ old Conf) × (new Capture ≡ old Capture) × (new Script ≡ old Script) × (new GivenTrace ≡ old GivenTrace) × (new Other ≡ old Other) × (new Replies ≡ old Replies) × (new Trace ≡ old Trace) × (new Played ≡ old Played)
SameBut Other old new =
    (new Conf ≡ old Conf) × (new Capture ≡ old Capture) × (new Script ≡ old Script) × (new GivenTrace ≡ old GivenTrace) × (new GivenReplies ≡ old GivenReplies) × (new Replies ≡ old Replies) × (new Trace ≡ old Trace) × (new Played ≡ old Played)
SameBut Replies old new =
    (new Conf ≡ old Conf) × (new Capture ≡ old Capture) × (new Script ≡ old Script) × (new GivenTrace ≡ old GivenTrace) × (new GivenReplies ≡ old GivenReplies) × (new Other ≡ old Other) × (new Trace ≡ old Trace) × (new Played ≡ old Played)
SameBut Trace old new =
    (new Conf ≡ old Conf) × (new Capture ≡ old Capture) × (new Script ≡ old Script) × (new GivenTrace ≡ old GivenTrace) × (new GivenReplies ≡ old GivenReplies) × (new Other ≡ old Other) × (new Replies ≡ old Replies) × (new Played ≡ old Played)
SameBut Played old new =
    (new Conf ≡ old Conf) × (new Capture ≡ old Capture) × (new Script ≡ old Script) × (new GivenTrace ≡ old GivenTrace) × (new GivenReplies ≡ old GivenReplies) × (new Other ≡ old Other) × (new Replies ≡ old Replies) × (new Trace ≡ old Trace)
