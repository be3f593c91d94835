-- Text in pieces.
use Rattle.std.proofs.Common.{◌≡◌, ℕ, List, [], ◌∷◌, ◌++◌, refl, append_assoc}
use Rattle.std.specs.Prelude.{codes}
use Rattle.std.proofs.lemmas.List.{append-nil}
use Rattle.ix_words.specs.Parts.{join}
use Rattle.ix_base.specs.declared.frame.Disposition.{Disposition}
use Rattle.ix_base.specs.declared.frame.Disposition.TheVariants as kinds
use Rattle.ix_lines.specs.Names.{kind_words}

-- a connection's line, made of five pieces
pub conn_pieces : (old g m r p l x : List ℕ)
    → ((((old ++ (99 ∷ 111 ∷ 110 ∷ 110 ∷ 32 ∷ (g ++ 32 ∷ (m ++ 32 ∷ 114 ∷ 101 ∷ 109 ∷ 111 ∷ 116 ∷ 101 ∷ 32 ∷ [])))) ++ r) ++ (32 ∷ (p ++ 32 ∷ 108 ∷ 111 ∷ 99 ∷ 97 ∷ 108 ∷ 32 ∷ (l ++ 32 ∷ 105 ∷ 115 ∷ 115 ∷ 32 ∷ [])))) ++ x) ++ 10 ∷ []
    ≡ old ++ (99 ∷ 111 ∷ 110 ∷ 110 ∷ 32 ∷ (g ++ 32 ∷ (m ++ 32 ∷ 114 ∷ 101 ∷ 109 ∷ 111 ∷ 116 ∷ 101 ∷ 32 ∷ (r ++ 32 ∷ (p ++ 32 ∷ 108 ∷ 111 ∷ 99 ∷ 97 ∷ 108 ∷ 32 ∷ (l ++ 32 ∷ 105 ∷ 115 ∷ 115 ∷ 32 ∷ x))))) ++ 10 ∷ [] ++ [])
conn_pieces old g m r p l x = simp (append_assoc, append-nil)

-- the first line, made of three pieces
pub head_pieces : (old c b n : List ℕ)
    → ((old ++ (104 ∷ 101 ∷ 97 ∷ 100 ∷ 32 ∷ 50 ∷ 32 ∷ 99 ∷ 111 ∷ 114 ∷ 101 ∷ 115 ∷ 32 ∷ c)) ++ (32 ∷ 103 ∷ 114 ∷ 111 ∷ 117 ∷ 112 ∷ 115 ∷ 32 ∷ 53 ∷ 49 ∷ 50 ∷ [])) ++ (32 ∷ 98 ∷ 97 ∷ 116 ∷ 99 ∷ 104 ∷ 32 ∷ (b ++ 32 ∷ 98 ∷ 117 ∷ 102 ∷ 102 ∷ 101 ∷ 114 ∷ 115 ∷ 32 ∷ (n ++ 10 ∷ [])))
    ≡ old ++ ((104 ∷ 101 ∷ 97 ∷ 100 ∷ 32 ∷ 50 ∷ 32 ∷ 99 ∷ 111 ∷ 114 ∷ 101 ∷ 115 ∷ 32 ∷ (c ++ 32 ∷ 103 ∷ 114 ∷ 111 ∷ 117 ∷ 112 ∷ 115 ∷ 32 ∷ 53 ∷ 49 ∷ 50 ∷ 32 ∷ 98 ∷ 97 ∷ 116 ∷ 99 ∷ 104 ∷ 32 ∷ (b ++ 32 ∷ 98 ∷ 117 ∷ 102 ∷ 102 ∷ 101 ∷ 114 ∷ 115 ∷ 32 ∷ n))) ++ 10 ∷ [] ++ [])
head_pieces old c b n = simp (append_assoc, append-nil)

-- the words of a disposition, between others
pub kind_between : (w : List ℕ) (k : Disposition) (r : List ℕ)
    → join 32 (w ∷ kind_words k ++ codes "reply" ∷ r ∷ []) ≡ w ++ 32 ∷ (join 32 (kind_words k) ++ 32 ∷ (codes "reply" ++ 32 ∷ r))
kind_between w kinds.NotIp r = refl
kind_between w kinds.NotOurs r = refl
kind_between w kinds.Arp r = refl
kind_between w kinds.BadIpShort r = refl
kind_between w kinds.BadIpVersion r = refl
kind_between w kinds.BadIpLength r = refl
kind_between w kinds.BadIpSum r = refl
kind_between w kinds.BadIpFragment r = refl
kind_between w kinds.NotTcp r = refl
kind_between w kinds.BadTcpShort r = refl
kind_between w kinds.BadTcpOffset r = refl
kind_between w kinds.BadTcpSum r = refl
kind_between w kinds.Closed r = refl
kind_between w kinds.Full r = refl
kind_between w kinds.IcmpEcho r = refl
kind_between w kinds.UdpEcho r = refl

-- a stray's line, made of three pieces
pub stray_pieces : (old w c k r : List ℕ)
    → ((old ++ (115 ∷ 116 ∷ 114 ∷ 97 ∷ 121 ∷ 32 ∷ (w ++ 32 ∷ 99 ∷ 111 ∷ 114 ∷ 101 ∷ 32 ∷ (c ++ 32 ∷ [])))) ++ k) ++ (32 ∷ 114 ∷ 101 ∷ 112 ∷ 108 ∷ 121 ∷ 32 ∷ (r ++ 10 ∷ []))
    ≡ old ++ ((115 ∷ 116 ∷ 114 ∷ 97 ∷ 121 ∷ 32 ∷ (w ++ 32 ∷ 99 ∷ 111 ∷ 114 ∷ 101 ∷ 32 ∷ (c ++ 32 ∷ (k ++ 32 ∷ 114 ∷ 101 ∷ 112 ∷ 108 ∷ 121 ∷ 32 ∷ r)))) ++ 10 ∷ [] ++ [])
stray_pieces old w c k r = simp (append_assoc, append-nil)

pub stray_dash : (old w c k : List ℕ)
    → ((old ++ (115 ∷ 116 ∷ 114 ∷ 97 ∷ 121 ∷ 32 ∷ (w ++ 32 ∷ 99 ∷ 111 ∷ 114 ∷ 101 ∷ 32 ∷ (c ++ 32 ∷ [])))) ++ k) ++ 32 ∷ 114 ∷ 101 ∷ 112 ∷ 108 ∷ 121 ∷ 32 ∷ 45 ∷ 10 ∷ []
    ≡ old ++ ((115 ∷ 116 ∷ 114 ∷ 97 ∷ 121 ∷ 32 ∷ (w ++ 32 ∷ 99 ∷ 111 ∷ 114 ∷ 101 ∷ 32 ∷ (c ++ 32 ∷ (k ++ 32 ∷ 114 ∷ 101 ∷ 112 ∷ 108 ∷ 121 ∷ 32 ∷ 45 ∷ [])))) ++ 10 ∷ [] ++ [])
stray_dash old w c k = simp (append_assoc, append-nil)

pub ruleset stray_steps = (kind_between, stray_pieces, stray_dash)
