-- What the bytes of a configuration read as.
use Rattle.std.proofs.Common.{◌≡◌, ℕ, List, Option, Some, None, Bool, true, false, refl}
use Rattle.std.specs.Prelude.{Result, Err, IsUtf8, if◌then◌else◌}
use Rattle.std.specs.Str.{is_utf8}
use Rattle.std.proofs.lemmas.Str.{IsUtf8-from_is_utf8, is_utf8-from_IsUtf8}
use Rattle.toml.specs.Data.{Members}
use Rattle.toml.specs.Parse.{parse_document}
use Rattle.ix_conf.specs.declared.keys.ConfFault.{ConfFault}
use Rattle.ix_conf.specs.declared.keys.ConfFault.TheVariants as faults
use Rattle.ix_conf.specs.declared.settings.Conf.{Conf}
use Rattle.ix_conf.specs.declared.unknown.Place.TheVariants as places
use Rattle.ix_conf.specs.Unknown.{is_unknown_in_members}
use Rattle.ix_conf.specs.Value.{Gives}
use Rattle.ix_conf.specs.Settings.{settings_of, conf_of, members_read, keys_of}

pub conf_of-some : (bytes : List ℕ) (ms : Members) → IsUtf8 bytes → parse_document bytes ≡ Some ms → conf_of bytes ≡ members_read (Some ms)
unfolding conf_of
conf_of-some bytes ms text parsed = rw (is_utf8-from_IsUtf8 bytes text, parsed) refl

pub conf_of-unknown : (bytes : List ℕ) (ms : Members) → IsUtf8 bytes → parse_document bytes ≡ Some ms → is_unknown_in_members places.Root ms ≡ true
    → conf_of bytes ≡ Err faults.Unknown
conf_of-unknown bytes ms text parsed unknown = rw (conf_of-some bytes ms text parsed, unknown) refl

pub conf_of-keys : (bytes : List ℕ) (ms : Members) (r : Result Conf ConfFault) → IsUtf8 bytes → parse_document bytes ≡ Some ms
    → is_unknown_in_members places.Root ms ≡ false → Gives settings_of r (keys_of ms) → Gives settings_of r (conf_of bytes)
conf_of-keys bytes ms r text parsed known gives = rw (conf_of-some bytes ms text parsed, known) gives

no_text : (b : Bool) (o : Option Members) → (b ≡ true → o ≡ None) → (if b then members_read o else Err faults.Text) ≡ Err faults.Text
no_text true o h = rw (h refl) refl
no_text false o h = refl

pub conf_of-none : (bytes : List ℕ) → (IsUtf8 bytes → parse_document bytes ≡ None) → conf_of bytes ≡ Err faults.Text
unfolding conf_of
conf_of-none bytes h = no_text (is_utf8 bytes) (parse_document bytes) (λ e. h (IsUtf8-from_is_utf8 bytes e))
