-- What is named is written so.
use Rattle.std.proofs.Common.{◌≡◌, ℕ, List, [], ◌∷◌, ◌++◌, refl, ap, sym, ◌∙◌, subst, arith, Option, Some, None}
use Rattle.std.specs.Prelude.{if◌then◌else◌, codes}
use Rattle.std.specs.Str.{bytes_eq}
use Rattle.std.specs.List.{AllByRecursion}
use Rattle.std.specs.Fmt.{decimal}
use Rattle.std.proofs.lemmas.Bool.{cond_both}
use Rattle.std.proofs.lemmas.Option.{same_Some}
use Rattle.std.proofs.lemmas.Slice.Eq.{bytes_eq-Decides}
use Rattle.ix_words.specs.Numbers.{number_of}
use Rattle.ix_words.specs.Fields.{◌>>=◌, field_of, with_rest}
use Rattle.ix_words.specs.NumberLaws.{number_of-takes, number_of-again}
use Rattle.ix_base.specs.declared.frame.Disposition.{Disposition}
use Rattle.ix_base.specs.declared.frame.Disposition.TheVariants as kinds
use Rattle.ix_tcpdef.specs.declared.types.State.{State}
use Rattle.ix_tcpdef.specs.declared.types.State.TheVariants as states
use Rattle.ix_lines.specs.declared.types.ConnectLine.{ConnectLine}
use Rattle.ix_lines.specs.declared.types.ConnectLine.TheVariants as connects
use Rattle.ix_lines.specs.declared.types.RetLine.{RetLine}
use Rattle.ix_lines.specs.declared.types.RetLine.TheVariants as rets
use Rattle.ix_lines.specs.declared.types.OutputLine.{OutputLine}
use Rattle.ix_lines.specs.declared.types.OutputLine.TheVariants as outputs
use Rattle.ix_lines.specs.Names.{named, state_word, all_states, state_of, connect_word, connect_answer_of, kind_words, kind_word, plain_kind_of, ip_fault_of, tcp_fault_of, kind_of, reply_word, number_there, reply_number_of, ret_word, refusal_of, outcome_word, connected_of, dead_of}
use Rattle.ix_lines.specs.Words.{FitsReply}

named_takes : {A : Type 0} (word : A → List ℕ) (xs : List A) (w : List ℕ) (x : A) → named word xs w ≡ Some x → w ≡ word x
named_takes word [] w x e = absurd (cc)
named_takes word (y ∷ xs) w x e =
    cond_both (bytes_eq w (word y)) (Some y) (named word xs w) (λ r. r ≡ Some x → w ≡ word x)
    (λ t g. (bytes_eq-Decides w (word y)).0 t ∙ ap word (same_Some y x g)) (λ t g. named_takes word xs w x g) e

-- what holds of each value with this word
named_then : {A : Type 0} (word : A → List ℕ) (xs : List A) (w : List ℕ) (x : A) (P : A → Type 0) → named word xs w ≡ Some x
    → AllByRecursion (λ y. w ≡ word y → P y) xs → P x
named_then word [] w x P e all = absurd (cc)
named_then word (y ∷ xs) w x P e all =
    cond_both (bytes_eq w (word y)) (Some y) (named word xs w) (λ r. r ≡ Some x → P x)
    (λ t g. subst P (same_Some y x g) (all.0 ((bytes_eq-Decides w (word y)).0 t))) (λ t g. named_then word xs w x P g all.1) e

pub state_of-takes : (w : List ℕ) (s : State) → state_of w ≡ Some s → w ≡ state_word s
unfolding state_of
state_of-takes w s e = named_takes state_word all_states w s e

pub state_of-again : (s : State) → state_of (state_word s) ≡ Some s
unfolding state_of
state_of-again states.Listen = refl
state_of-again states.SynSent = refl
state_of-again states.SynReceived = refl
state_of-again states.Established = refl
state_of-again states.FinWait1 = refl
state_of-again states.FinWait2 = refl
state_of-again states.CloseWait = refl
state_of-again states.Closing = refl
state_of-again states.LastAck = refl
state_of-again states.TimeWait = refl
state_of-again states.Closed = refl

pub connect_answer_of-takes : (w : List ℕ) (a : ConnectLine) → connect_answer_of w ≡ Some a → w ≡ connect_word a
unfolding connect_answer_of
connect_answer_of-takes w a e = named_takes connect_word (connects.Done ∷ connects.NoNeighbour ∷ connects.NoPort ∷ connects.TableFull ∷ []) w a e

pub connect_answer_of-again : (a : ConnectLine) → connect_answer_of (connect_word a) ≡ Some a
unfolding connect_answer_of
connect_answer_of-again connects.Done = refl
connect_answer_of-again connects.NoNeighbour = refl
connect_answer_of-again connects.NoPort = refl
connect_answer_of-again connects.TableFull = refl

pub refusal_of-then : (w : List ℕ) (r : RetLine) (P : RetLine → Type 0) → refusal_of w ≡ Some r
    → AllByRecursion (λ y. w ≡ ret_word y → P y) (rets.BadHandle ∷ rets.NotKnocked ∷ rets.NotOpen ∷ rets.TooMuch ∷ []) → P r
unfolding refusal_of
refusal_of-then w r P e all = named_then ret_word (rets.BadHandle ∷ rets.NotKnocked ∷ rets.NotOpen ∷ rets.TooMuch ∷ []) w r P e all

pub connected_of-then : (w : List ℕ) (o : OutputLine) (P : OutputLine → Type 0) → connected_of w ≡ Some o
    → AllByRecursion (λ y. w ≡ outcome_word y → P y) (outputs.ConnectedUp ∷ outputs.ConnectedRefused ∷ outputs.ConnectedTimeout ∷ []) → P o
unfolding connected_of
connected_of-then w o P e all = named_then outcome_word (outputs.ConnectedUp ∷ outputs.ConnectedRefused ∷ outputs.ConnectedTimeout ∷ []) w o P e all

pub dead_of-then : (w : List ℕ) (o : OutputLine) (P : OutputLine → Type 0) → dead_of w ≡ Some o
    → AllByRecursion (λ y. w ≡ outcome_word y → P y) (outputs.DeadReset ∷ outputs.DeadTimeout ∷ []) → P o
unfolding dead_of
dead_of-then w o P e all = named_then outcome_word (outputs.DeadReset ∷ outputs.DeadTimeout ∷ []) w o P e all

-- ---- dispositions
field_at : {B P : Type 0} (read : List ℕ → Option B) (ws : List (List ℕ)) (kr : B × List (List ℕ)) → field_of read ws ≡ Some kr
    → ((v : List ℕ) → ws ≡ v ∷ kr.1 → read v ≡ Some kr.0 → P) → P
field_at read [] kr e go = absurd (cc)
field_at {B = B} {P = P} read (w ∷ ws) kr e go = by_read (read w) refl e where
  by_read : (o : Option B) → read w ≡ o → with_rest ws o ≡ Some kr → P
  by_read None p g = absurd (cc)
  by_read (Some b) p g = let s : (b, ws) ≡ kr = same_Some (b, ws) kr g in go w (ap (λ r. w ∷ r.1) s) (p ∙ ap (λ r. Some r.0) s)

ip_fault_then : (w v : List ℕ) (rest : List (List ℕ)) (k : Disposition) → w ≡ codes "bad-ip" → ip_fault_of v ≡ Some k → w ∷ v ∷ rest ≡ kind_words k ++ rest
unfolding ip_fault_of
ip_fault_then w v rest k h e =
    named_then kind_word (kinds.BadIpShort ∷ kinds.BadIpVersion ∷ kinds.BadIpLength ∷ kinds.BadIpSum ∷ kinds.BadIpFragment ∷ []) v k
    (λ k. w ∷ v ∷ rest ≡ kind_words k ++ rest) e
    (λ o. cc (h, o), (λ o. cc (h, o), (λ o. cc (h, o), (λ o. cc (h, o), (λ o. cc (h, o), tt)))))

tcp_fault_then : (w v : List ℕ) (rest : List (List ℕ)) (k : Disposition) → w ≡ codes "bad-tcp" → tcp_fault_of v ≡ Some k → w ∷ v ∷ rest ≡ kind_words k ++ rest
unfolding tcp_fault_of
tcp_fault_then w v rest k h e =
    named_then kind_word (kinds.BadTcpShort ∷ kinds.BadTcpOffset ∷ kinds.BadTcpSum ∷ []) v k
    (λ k. w ∷ v ∷ rest ≡ kind_words k ++ rest) e (λ o. cc (h, o), (λ o. cc (h, o), (λ o. cc (h, o), tt)))

plain_kind_then : (w : List ℕ) (rest : List (List ℕ)) (k : Disposition) → plain_kind_of w ≡ Some k → w ∷ rest ≡ kind_words k ++ rest
unfolding plain_kind_of
plain_kind_then w rest k e =
    named_then kind_word (kinds.NotIp ∷ kinds.NotOurs ∷ kinds.Arp ∷ kinds.NotTcp ∷ kinds.Closed ∷ kinds.Full ∷ kinds.IcmpEcho ∷ kinds.UdpEcho ∷ []) w k
    (λ k. w ∷ rest ≡ kind_words k ++ rest) e
    (λ o. cc o, (λ o. cc o, (λ o. cc o, (λ o. cc o, (λ o. cc o, (λ o. cc o, (λ o. cc o, (λ o. cc o, tt))))))))

kind_takes : (ws : List (List ℕ)) (kr : Disposition × List (List ℕ)) → kind_of ws ≡ Some kr → ws ≡ kind_words kr.0 ++ kr.1
unfolding kind_of
kind_takes [] kr e = absurd (cc)
kind_takes (w ∷ ws) kr e =
    cond_both (bytes_eq w (codes "bad-ip")) (field_of ip_fault_of ws) (if bytes_eq w (codes "bad-tcp") then field_of tcp_fault_of ws else with_rest ws (plain_kind_of w))
    (λ r. r ≡ Some kr → w ∷ ws ≡ kind_words kr.0 ++ kr.1)
    (λ t f. field_at ip_fault_of ws kr f (λ v p q. ap (λ r. w ∷ r) p ∙ ip_fault_then w v kr.1 kr.0 ((bytes_eq-Decides w (codes "bad-ip")).0 t) q))
    (λ t f.
    cond_both (bytes_eq w (codes "bad-tcp")) (field_of tcp_fault_of ws) (with_rest ws (plain_kind_of w)) (λ r. r ≡ Some kr → w ∷ ws ≡ kind_words kr.0 ++ kr.1)
    (λ u g. field_at tcp_fault_of ws kr g (λ v p q. ap (λ r. w ∷ r) p ∙ tcp_fault_then w v kr.1 kr.0 ((bytes_eq-Decides w (codes "bad-tcp")).0 u) q))
    (λ u g. by_kind (plain_kind_of w) refl g) f)
    e where
      by_kind : (o : Option Disposition) → plain_kind_of w ≡ o → with_rest ws o ≡ Some kr → w ∷ ws ≡ kind_words kr.0 ++ kr.1
      by_kind None p g = absurd (cc)
      by_kind (Some k) p g = plain_kind_then w ws k p ∙ ap (λ r. kind_words r.0 ++ r.1) (same_Some (k, ws) kr g)

pub kind_then : {A P : Type 0} (ws : List (List ℕ)) (f : Disposition × List (List ℕ) → Option A) (x : A) → kind_of ws >>= f ≡ Some x
    → ((k : Disposition) (rest : List (List ℕ)) → ws ≡ kind_words k ++ rest → f (k, rest) ≡ Some x → P) → P
kind_then {P = P} ws f x e go = by_kind (kind_of ws) refl e where
  by_kind : (o : Option (Disposition × List (List ℕ))) → kind_of ws ≡ o → o >>= f ≡ Some x → P
  by_kind None p g = absurd (cc)
  by_kind (Some kr) p g = go kr.0 kr.1 (kind_takes ws kr p) g

pub kind_of-again : (k : Disposition) (rest : List (List ℕ)) → kind_of (kind_words k ++ rest) ≡ Some (k, rest)
unfolding kind_of plain_kind_of ip_fault_of tcp_fault_of
kind_of-again kinds.NotIp rest = refl
kind_of-again kinds.NotOurs rest = refl
kind_of-again kinds.Arp rest = refl
kind_of-again kinds.BadIpShort rest = refl
kind_of-again kinds.BadIpVersion rest = refl
kind_of-again kinds.BadIpLength rest = refl
kind_of-again kinds.BadIpSum rest = refl
kind_of-again kinds.BadIpFragment rest = refl
kind_of-again kinds.NotTcp rest = refl
kind_of-again kinds.BadTcpShort rest = refl
kind_of-again kinds.BadTcpOffset rest = refl
kind_of-again kinds.BadTcpSum rest = refl
kind_of-again kinds.Closed rest = refl
kind_of-again kinds.Full rest = refl
kind_of-again kinds.IcmpEcho rest = refl
kind_of-again kinds.UdpEcho rest = refl

-- ---- a number or a dash
number_there_takes : (w : List ℕ) (r : Option ℕ) (o : Option ℕ) → number_of 4294967295 w ≡ o → number_there o ≡ Some r → (w ≡ reply_word r) × FitsReply r
number_there_takes w r None p e = absurd (cc)
number_there_takes w r (Some n) p e =
    let t = number_of-takes 4294967295 n w (omega arith) p in
    let s : Some n ≡ r = same_Some (Some n) r e in
    subst (λ r. (w ≡ reply_word r) × FitsReply r) s (t.0, t.1)

pub reply_number_of-takes : (w : List ℕ) (r : Option ℕ) → reply_number_of w ≡ Some r → (w ≡ reply_word r) × FitsReply r
unfolding reply_number_of
reply_number_of-takes w r e =
    cond_both (bytes_eq w (codes "-")) (Some None) (number_there (number_of 4294967295 w)) (λ x. x ≡ Some r → (w ≡ reply_word r) × FitsReply r)
    (λ t f. let s : None ≡ r = same_Some None r f in subst (λ r. (w ≡ reply_word r) × FitsReply r) s ((bytes_eq-Decides w (codes "-")).0 t, tt))
    (λ t f. number_there_takes w r (number_of 4294967295 w) refl f) e

no_number : number_of 4294967295 (codes "-") ≡ None
unfolding number_of
no_number = refl

pub reply_number_of-again : (r : Option ℕ) → FitsReply r → reply_number_of (reply_word r) ≡ Some r
unfolding reply_number_of
reply_number_of-again None h = refl
reply_number_of-again (Some n) h =
    cond_both (bytes_eq (decimal n) (codes "-")) (Some None) (number_there (number_of 4294967295 (decimal n))) (λ x. x ≡ Some (Some n))
    (λ t.
    let s : decimal n ≡ codes "-" = (bytes_eq-Decides (decimal n) (codes "-")).0 t in
    let a : number_of 4294967295 (codes "-") ≡ Some n = ap (number_of 4294967295) (sym s) ∙ number_of-again 4294967295 n (omega arith) h in
    let z : number_of 4294967295 (codes "-") ≡ None = no_number in
    absurd (cc (a, z)))
    (λ t. ap number_there (number_of-again 4294967295 n (omega arith) h))
