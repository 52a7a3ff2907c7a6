-- A list that is written from the front on, part by part: what it is to be is what stands before a place already, and what is left to write.
use Prim.Native.Nat.{ℕ, ◌+◌, ◌-◌, ◌≤◌}
use mathlib.Core.List.{List, [], ◌++◌, append_assoc, append-nil}
use mathlib.Core.Path.{◌≡◌, refl, sym, ap, subst, ◌∙◌}
use native.Mathlib.Omega.{arith}
use lib.ListN.{length, take, drop, length-append, length-drop, take-append-drop, drop_of_length-le}
use lib.Seq.{length-take-le, take_at, drop_at, drop-drop}
use Rattle.ol_tables.proofs.Lending.{tail_of, tail_all}

-- `s` after `&mut s[u..e]`, with n = e - u, is back at `x`
abbrev pub put_part : ℕ → ℕ → List ℕ → List ℕ → List ℕ
put_part u n s x = take u s ++ (x ++ drop n (drop u s))

-- `out`, which was `base`, has been written up to p; `whole` is what it is to be, and `left` what is left of that
pub record Filling (whole base : List ℕ) (p : ℕ) (out left : List ℕ) : Type 0 where
  pub is : whole ≡ take p out ++ left
  pub behind : drop p out ≡ drop p base
  pub long : length out ≡ length base

pub fill_none : {whole base : List ℕ} → Filling whole base 0 base whole
fill_none = record { is = refl; behind = refl; long = refl }

pub fill_done : {whole base : List ℕ} {p : ℕ} {out left : List ℕ} → Filling whole base p out left → left ≡ drop p base → out ≡ whole
fill_done {whole} {base} {p} {out} h e = sym (h.is ∙ ap (λ l. take p out ++ l) (e ∙ sym h.behind) ∙ take-append-drop p out)

pub fill_left : {whole base : List ℕ} {p : ℕ} {out left left' : List ℕ} → left ≡ left' → Filling whole base p out left → Filling whole base p out left'
fill_left {whole} {base} {p} {out} e h = subst (λ l. Filling whole base p out l) e h

module _ {whole base : List ℕ} {p : ℕ} {out : List ℕ} (c left : List ℕ) (n : ℕ) (size : length c ≡ n) (room : p + n ≤ length base) where
  -- the next part is written
  pub fill_more : (out' : List ℕ) → out' ≡ take p out ++ (c ++ drop n (drop p out)) → Filling whole base p out (c ++ left) → Filling whole base (p + n) out' left
  fill_more out' e h =
      let front = take p out in
      let rest = drop n (drop p out) in
      let k : length (front ++ c) ≡ p + n = length-append front c ∙ omega (arith, length-take-le p out (omega (arith, h.long)), size) in
      let q : out' ≡ (front ++ c) ++ rest = e ∙ sym (append_assoc front c rest) in
      record {
        is = h.is ∙ sym (append_assoc front c left) ∙ ap (λ l. l ++ left) (sym (ap (take (p + n)) q ∙ take_at (front ++ c) rest (p + n) k));
        behind = ap (drop (p + n)) q ∙ drop_at (front ++ c) rest (p + n) k ∙ ap (drop n) h.behind ∙ drop-drop n p base;
        long = ap length q ∙ length-append (front ++ c) rest ∙ omega (arith, k, length-drop n (drop p out), length-drop p out, h.long);
      }

  -- by a callee that was lent what follows p
  pub fill_tail : (x : List ℕ) → x ≡ c ++ drop n (tail_of p out) → Filling whole base p out (c ++ left) → Filling whole base (p + n) (put_part p (length out - p) out x) left
  fill_tail x e h =
      let none : drop (length out - p) (drop p out) ≡ [] = drop_of_length-le (drop p out) {i = length out - p} (omega (arith, length-drop p out)) in
      fill_more _
      (ap (λ l. take p out ++ (x ++ l)) none ∙ ap (λ l. take p out ++ l) (append-nil x ∙ e ∙ ap (λ l. c ++ drop n l) (tail_all p out))) h

  -- by a callee that was lent just the part
  pub fill_part : (m : ℕ) → m ≡ n → (x : List ℕ) → x ≡ c → Filling whole base p out (c ++ left) → Filling whole base (p + n) (put_part p m out x) left
  fill_part m k x e h = fill_more _ (ap (λ l. take p out ++ (l ++ drop m (drop p out))) e ∙ ap (λ i. take p out ++ (c ++ drop i (drop p out))) k) h

-- the place by another name
pub fill_at : {whole base : List ℕ} {p q : ℕ} {out left : List ℕ} → p ≡ q → Filling whole base p out left → Filling whole base q out left
fill_at {whole} {base} {p} {q} {out} {left} e h = subst (λ n. Filling whole base n out left) e h
