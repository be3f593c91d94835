-- The configuration is read.
use Rattle.std.proofs.Common.{◌≡◌, ℕ, zero, suc, List, [], ◌∷◌, Bool, true, false, refl, arith, IsAscii}
use Rattle.std.specs.Prelude.{◌&&◌, nat_lt, if◌then◌else◌}
use Rattle.std.specs.Str.{is_utf8}
use Rattle.std.proofs.lemmas.Bool.{and_parts}
use Rattle.std.proofs.lemmas.Bool.Decides.{nat_tests}
use Rattle.std.proofs.lemmas.Str.{IsUtf8-from_ascii, is_utf8-from_IsUtf8}
use Rattle.toml.proofs.OnLiterals.{toml_on_literals}
use Rattle.ix_conf.specs.Settings.{conf_of, keys_of}
use Rattle.ix_conf.specs.Sections.{local_of, core_of, tcp_of}
use Rattle.ix_conf.specs.Push.{push_of}
use Rattle.ix_conf.specs.Value.{section_of}
use Rattle.ix_conf.specs.Address.{ip_of, mac_of}
use Rattle.ix_conf.specs.Unknown.{allows, below}
use Rattle.ix_gen.specs.Texts.{conf_text}
use Rattle.ix_gen.specs.Settings.{ConfIsRead}

all_ascii : List ℕ → Bool
all_ascii [] = true
all_ascii (b ∷ bs) = nat_lt b 128 && all_ascii bs

ascii : (bs : List ℕ) → all_ascii bs ≡ true → IsAscii bs
unfolding all_ascii
ascii [] h i = omega arith
ascii (b ∷ bs) h zero = grind (arith, nat_tests, (and_parts (nat_lt b 128) (all_ascii bs) h).0)
ascii (b ∷ bs) h (suc i) = ascii bs (and_parts (nat_lt b 128) (all_ascii bs) h).1 i

where_true : {A : Type 0} (b : Bool) (x y z : A) → b ≡ true → x ≡ z → (if b then x else y) ≡ z
where_true true x y z e f = f
where_true false x y z e f = absurd (cc)

text : is_utf8 conf_text ≡ true
unfolding all_ascii conf_text
text = is_utf8-from_IsUtf8 conf_text (IsUtf8-from_ascii conf_text (ascii conf_text refl))

pub conf_read : ConfIsRead
unfolding toml_on_literals conf_of keys_of local_of core_of tcp_of push_of section_of ip_of mac_of allows below conf_text
conf_read = where_true (is_utf8 conf_text) _ _ _ text refl
