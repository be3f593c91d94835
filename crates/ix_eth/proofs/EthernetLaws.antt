-- The header of a frame reads back.
use Rattle.std.proofs.Common.{◌≡◌, ℕ, ◌+◌, ◌<◌, List, [], ◌∷◌, length, Option, Some, refl, ap, arith, ◌∙◌}
use Rattle.std.specs.Prelude.{nat_lt}
use Rattle.std.proofs.lemmas.Bool.Decides.{nat_tests}
use Rattle.byteorder.specs.Endian.{big_from, big_bytes}
use Rattle.byteorder.specs.Numbers.{big_number-reads_back}
use Rattle.ix_base.specs.Branches.{past}
use Rattle.ix_eth.specs.Ethernet.{Ethernet, ethernet_of, ethernet_parts, ethernet_header, IsHeader}

-- what holds of every six bytes holds of a list with six
on_six : (P : List ℕ → Type 0) → ((a b c d e f : ℕ) → P (a ∷ b ∷ c ∷ d ∷ e ∷ f ∷ [])) → (xs : List ℕ) → length xs ≡ 6 → P xs
on_six P h [] len = absurd (omega arith)
on_six P h (a ∷ []) len = absurd (omega arith)
on_six P h (a ∷ b ∷ []) len = absurd (omega arith)
on_six P h (a ∷ b ∷ c ∷ []) len = absurd (omega arith)
on_six P h (a ∷ b ∷ c ∷ d ∷ []) len = absurd (omega arith)
on_six P h (a ∷ b ∷ c ∷ d ∷ e ∷ []) len = absurd (omega arith)
on_six P h (a ∷ b ∷ c ∷ d ∷ e ∷ f ∷ []) len = h a b c d e f
on_six P h (a ∷ b ∷ c ∷ d ∷ e ∷ f ∷ g ∷ xs) len = absurd (omega arith)

long_enough : (frame : List ℕ) → 14 < length frame + 1 → ethernet_of frame ≡ Some (ethernet_parts frame)
unfolding ethernet_of
long_enough frame h = past (nat_lt (length frame) 14) _ _ _ (grind (arith, nat_tests)) refl

with_kind : (dst src rest : List ℕ) (k kind : ℕ) → k ≡ kind
    → ◌≡◌ {A = Option Ethernet} (Some (record { dst = dst; src = src; kind = k; rest = rest })) (Some (record { dst = dst; src = src; kind = kind; rest = rest }))
with_kind dst src rest k kind e = ap (λ n. Some (record { dst = dst; src = src; kind = n; rest = rest })) e

pub header_read : (dst src : List ℕ) (kind : ℕ) → length dst ≡ 6 → length src ≡ 6 → kind < 65536 → IsHeader dst src kind (ethernet_header dst src kind)
header_read dst src kind hd hs hk =
    on_six (λ d. IsHeader d src kind (ethernet_header d src kind))
    (λ a b c d e f. on_six (λ s. IsHeader (a ∷ b ∷ c ∷ d ∷ e ∷ f ∷ []) s kind (ethernet_header (a ∷ b ∷ c ∷ d ∷ e ∷ f ∷ []) s kind))
    (λ g h i j k l. λ rest. long_enough _ (omega arith)
    ∙ with_kind (a ∷ b ∷ c ∷ d ∷ e ∷ f ∷ []) (g ∷ h ∷ i ∷ j ∷ k ∷ l ∷ []) rest (big_from 0 2 (big_bytes 2 kind)) kind (big_number-reads_back 2 kind [] hk)) src hs)
    dst hd
