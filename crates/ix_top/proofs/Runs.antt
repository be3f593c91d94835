-- Two runs of calls on one role are one.
use Rattle.std.proofs.Common.{◌≡◌, ℕ, List, [], ◌++◌, ◌+◌, take, drop, refl, sym, ◌∙◌, ap, subst, arith, take-add}
use Rattle.std.specs.Prelude.{Option, Some, None}
use Rattle.std.specs.Io.KnownBytes.{prepend_known, append_known}
use Rattle.std.proofs.lemmas.List.{append_assoc, append-nil}
use Rattle.ix_base.specs.declared.role.Role.{Role}
use Rattle.ix_base.specs.declared.role.Role.TheVariants.{Conf, Capture, Script, GivenTrace, GivenReplies, Other, Replies, Trace, Played}
use Rattle.ix_base.specs.declared.role.Kind.{Kind}
use Rattle.ix_base.specs.declared.role.Kind.TheVariants.{Reading, Writing}
use Rattle.ix_base.specs.Role.{SameBut, IsRead, IsWritten}
use Rattle.ix_base.specs.Host.{State, Counts, Reads, Writes, Attaches}

SameBut-same : {X : Type 0} (role : Role) (f : Role → X) → SameBut role f f
SameBut-same Conf f = (refl, refl, refl, refl, refl, refl, refl, refl)
SameBut-same Capture f = (refl, refl, refl, refl, refl, refl, refl, refl)
SameBut-same Script f = (refl, refl, refl, refl, refl, refl, refl, refl)
SameBut-same GivenTrace f = (refl, refl, refl, refl, refl, refl, refl, refl)
SameBut-same GivenReplies f = (refl, refl, refl, refl, refl, refl, refl, refl)
SameBut-same Other f = (refl, refl, refl, refl, refl, refl, refl, refl)
SameBut-same Replies f = (refl, refl, refl, refl, refl, refl, refl, refl)
SameBut-same Trace f = (refl, refl, refl, refl, refl, refl, refl, refl)
SameBut-same Played f = (refl, refl, refl, refl, refl, refl, refl, refl)

SameBut-trans : {X : Type 0} (role : Role) (f g h : Role → X) → SameBut role f g → SameBut role g h → SameBut role f h
SameBut-trans Conf f g h p q = (q.0 ∙ p.0, q.1 ∙ p.1, q.2 ∙ p.2, q.3 ∙ p.3, q.4 ∙ p.4, q.5 ∙ p.5, q.6 ∙ p.6, q.7 ∙ p.7)
SameBut-trans Capture f g h p q = (q.0 ∙ p.0, q.1 ∙ p.1, q.2 ∙ p.2, q.3 ∙ p.3, q.4 ∙ p.4, q.5 ∙ p.5, q.6 ∙ p.6, q.7 ∙ p.7)
SameBut-trans Script f g h p q = (q.0 ∙ p.0, q.1 ∙ p.1, q.2 ∙ p.2, q.3 ∙ p.3, q.4 ∙ p.4, q.5 ∙ p.5, q.6 ∙ p.6, q.7 ∙ p.7)
SameBut-trans GivenTrace f g h p q = (q.0 ∙ p.0, q.1 ∙ p.1, q.2 ∙ p.2, q.3 ∙ p.3, q.4 ∙ p.4, q.5 ∙ p.5, q.6 ∙ p.6, q.7 ∙ p.7)
SameBut-trans GivenReplies f g h p q = (q.0 ∙ p.0, q.1 ∙ p.1, q.2 ∙ p.2, q.3 ∙ p.3, q.4 ∙ p.4, q.5 ∙ p.5, q.6 ∙ p.6, q.7 ∙ p.7)
SameBut-trans Other f g h p q = (q.0 ∙ p.0, q.1 ∙ p.1, q.2 ∙ p.2, q.3 ∙ p.3, q.4 ∙ p.4, q.5 ∙ p.5, q.6 ∙ p.6, q.7 ∙ p.7)
SameBut-trans Replies f g h p q = (q.0 ∙ p.0, q.1 ∙ p.1, q.2 ∙ p.2, q.3 ∙ p.3, q.4 ∙ p.4, q.5 ∙ p.5, q.6 ∙ p.6, q.7 ∙ p.7)
SameBut-trans Trace f g h p q = (q.0 ∙ p.0, q.1 ∙ p.1, q.2 ∙ p.2, q.3 ∙ p.3, q.4 ∙ p.4, q.5 ∙ p.5, q.6 ∙ p.6, q.7 ∙ p.7)
SameBut-trans Played f g h p q = (q.0 ∙ p.0, q.1 ∙ p.1, q.2 ∙ p.2, q.3 ∙ p.3, q.4 ∙ p.4, q.5 ∙ p.5, q.6 ∙ p.6, q.7 ∙ p.7)

prepend-nothing : (known : Option (List ℕ)) → known ≡ prepend_known [] known
prepend-nothing None = refl
prepend-nothing (Some xs) = refl

prepend-twice : (a b : List ℕ) (known : Option (List ℕ)) → prepend_known a (prepend_known b known) ≡ prepend_known (a ++ b) known
prepend-twice a b None = refl
prepend-twice a b (Some xs) = ap (λ (l : List ℕ). Some l) (sym (append_assoc a b xs))

append-nothing : (known : Option (List ℕ)) → known ≡ append_known known []
append-nothing None = refl
append-nothing (Some xs) = ap (λ (l : List ℕ). Some l) (sym (append-nil xs))

append-twice : (known : Option (List ℕ)) (a b : List ℕ) → append_known (append_known known a) b ≡ append_known known (a ++ b)
append-twice None a b = refl
append-twice (Some xs) a b = ap (λ (l : List ℕ). Some l) (append_assoc xs a b)

SameBut-equal : {X : Type 0} (role : Role) (f g : Role → X) → g ≡ f → SameBut role f g
SameBut-equal role f g e = subst (λ h. SameBut role f h) (sym e) (SameBut-same role f)

pub Counts-same : (kind : Kind) (x : State) → Counts kind x x
Counts-same kind x = record { later = omega arith; other = refl }

pub Counts-trans : (kind : Kind) (x y z : State) → Counts kind x y → Counts kind y z → Counts kind x z
Counts-trans kind x y z p q = let a = p.later in let b = q.later in record { later = omega arith; other = q.other ∙ p.other }

pub reads_nothing : (role : Role) (x : State) → Reads role [] x x
reads_nothing role x = record { taken = prepend-nothing (x.left role); others = SameBut-same role x.left; written = refl; others_attached = SameBut-same role x.is_attached; kept = λ r is. is; counts = Counts-same Reading x }

pub reads_more : (role : Role) (a b : List ℕ) (x y z : State) → Reads role a x y → Reads role b y z → Reads role (a ++ b) x z
reads_more role a b x y z p q = record {
  taken = p.taken ∙ ap (prepend_known a) q.taken ∙ prepend-twice a b (z.left role);
  others = SameBut-trans role x.left y.left z.left p.others q.others;
  written = q.written ∙ p.written;
  others_attached = SameBut-trans role x.is_attached y.is_attached z.is_attached p.others_attached q.others_attached;
  kept = λ r is. q.kept r (p.kept r is);
  counts = Counts-trans Reading x y z p.counts q.counts;
}

pub writes_nothing : (role : Role) (x : State) → Writes role [] x x
writes_nothing role x = record { appended = append-nothing (x.written role); others = SameBut-same role x.written; left = refl; others_attached = SameBut-same role x.is_attached; kept = λ r is. is; counts = Counts-same Writing x }

pub writes_more : (role : Role) (a b : List ℕ) (x y z : State) → Writes role a x y → Writes role b y z → Writes role (a ++ b) x z
writes_more role a b x y z p q = record {
  appended = q.appended ∙ ap (λ (k : Option (List ℕ)). append_known k b) p.appended ∙ append-twice (x.written role) a b;
  others = SameBut-trans role x.written y.written z.written p.others q.others;
  left = q.left ∙ p.left;
  others_attached = SameBut-trans role x.is_attached y.is_attached z.is_attached p.others_attached q.others_attached;
  kept = λ r is. q.kept r (p.kept r is);
  counts = Counts-trans Writing x y z p.counts q.counts;
}

-- the next n bytes after the first d
pub writes_next : (role : Role) (d n : ℕ) (bytes rest : List ℕ) (x y z : State) → rest ≡ drop d bytes → Writes role (take d bytes) x y → Writes role (take n rest) y z → Writes role (take (d + n) bytes) x z
writes_next role d n bytes rest x y z is p q =
    let next = subst (λ (l : List ℕ). Writes role (take n l) y z) is q in
    rw (take-add d n bytes) (writes_more role (take d bytes) (take n (drop d bytes)) x y z p next)

-- An attached role is one of which nothing is read yet.
pub reads_attached : (role : Role) (x y : State) → IsRead role → Attaches role x y → Reads role [] x y
reads_attached role x y is a = record {
  taken = prepend-nothing (x.left role) ∙ ap (λ (f : Role → Option (List ℕ)). prepend_known [] (f role)) (sym a.left);
  others = SameBut-equal role x.left y.left a.left;
  written = a.written;
  others_attached = a.others_attached;
  kept = a.kept;
  counts = subst (λ (k : Kind). Counts k x y) is a.counts;
}

pub writes_attached : (role : Role) (x y : State) → IsWritten role → Attaches role x y → Writes role [] x y
writes_attached role x y is a = record {
  appended = ap (λ (f : Role → Option (List ℕ)). f role) a.written ∙ append-nothing (x.written role);
  others = SameBut-equal role x.written y.written a.written;
  left = a.left;
  others_attached = a.others_attached;
  kept = a.kept;
  counts = subst (λ (k : Kind). Counts k x y) is a.counts;
}
