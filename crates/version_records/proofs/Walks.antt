-- How a walk goes on, without its fuel, and what a loop over it makes of it.
--     Onward                                    each record that can be read lies before the next
--     linked_end, linked_more, linked_stop      at the end of the bytes; at a record; at a refusal
--     counted_end, counted_more, counted_stop   the same of a counted chain
--     collect_end, collect_broken               the ways out of a loop over a walk: at the end; by a record that is refused
--     collect_turn, collect_leave               one turn of it; the way out by what a record gives
--     counted_repeat                            a record that is its own next, and changes nothing the second time
-- Assumes nothing.
use Rattle.std.proofs.Common.{ℕ, zero, suc, ◌-◌, ◌≤◌, ◌<◌, ◌≡◌, refl, sym, ap, ◌∙◌, Bool, true, false, cond, List, ltb, arith, not-suc-le-zero, sub-one, lt-ltb, le-ltb, ltb-true, Ok, Err}
use Rattle.endian.specs.declared.refusals.Refusal.{Refusal}
use Rattle.version_records.specs.Outcome.{Outcome, folded}
use Rattle.version_records.specs.Walk.{Walk, link, linked_within, linked, counted, collect}
use Rattle.version_records.specs.Walk.Walk.{end, broken, more}
use Rattle.version_records.proofs.Outcomes.{both_go, both_leave}

link_same : {A : Type 0} (o : Outcome A) (f g : A → Walk A) → ((a : A) → o ≡ Ok a → f a ≡ g a) → link o f ≡ link o g
link_same (Ok a) f g h = ap (more a) (h a refl)
link_same (Err e) f g h = refl

cond_same : {W : Type 0} (t : Bool) (x y z : W) → (t ≡ true → x ≡ y) → cond t x z ≡ cond t y z
cond_same true x y z h = h refl
cond_same false x y z h = refl

abbrev pub Onward : {A : Type 0} → (ℕ → Outcome A) → (A → ℕ) → (n : ℕ) → Type 0
Onward {A} step next n = (at : ℕ) (a : A) → at < n → step at ≡ Ok a → at < next a

module _ {A : Type 0} (step : ℕ → Outcome A) (next : A → ℕ) (n : ℕ) where
  fuel_end : (k at : ℕ) → n ≤ at → linked_within step next n k at ≡ end
  fuel_end zero at h = refl
  fuel_end (suc k) at h = rw (le-ltb at n h)

  -- any two amounts of fuel that suffice give the same walk
  enough : Onward step next n → (k j at : ℕ) → n - at ≤ k → n - at ≤ j
      → linked_within step next n k at ≡ linked_within step next n j at
  enough onward zero j at hk hj = sym (fuel_end j at (omega arith))
  enough onward (suc k) zero at hk hj = fuel_end (suc k) at (omega arith)
  enough onward (suc k) (suc j) at hk hj =
      cond_same (ltb at n) _ _ end
      (λ t. link_same (step at) _ _ (λ a e.
      let here : at < n = ltb-true at n t in
      let past : at < next a = onward at a here e in
      enough onward k j (next a) (omega arith) (omega arith)))

  pub linked_end : (at : ℕ) → n ≤ at → linked step next n at ≡ end
  unfolding linked
  linked_end at h = fuel_end (n - at) at h

  linked_link : Onward step next n → (at : ℕ) → at < n
      → linked step next n at ≡ link (step at) (λ a. linked step next n (next a))
  unfolding linked
  linked_link onward at h =
      enough onward (n - at) (suc (n - at)) at (omega arith) (omega arith)
      ∙ rw (lt-ltb at n h) (link_same (step at) _ _ (λ a e.
      let past : at < next a = onward at a h e in
      enough onward (n - at) (n - next a) (next a) (omega arith) (omega arith)))

  pub linked_more : Onward step next n → (at : ℕ) (a : A) → at < n → step at ≡ Ok a
      → linked step next n at ≡ more a (linked step next n (next a))
  linked_more onward at a h e = linked_link onward at h ∙ ap (λ (o : Outcome A). link o (λ a. linked step next n (next a))) e

  pub linked_stop : Onward step next n → (at : ℕ) (e : Refusal) → at < n → step at ≡ Err e
      → linked step next n at ≡ broken e
  linked_stop onward at e h s = linked_link onward at h ∙ ap (λ (o : Outcome A). link o (λ a. linked step next n (next a))) s

module _ {A : Type 0} (step : ℕ → Outcome A) (next : A → ℕ) where
  counted_link : (left at : ℕ) → 0 < left
      → counted step next left at ≡ link (step at) (λ a. counted step next (left - 1) (next a))
  counted_link zero at h = absurd (not-suc-le-zero h)
  counted_link (suc k) at h = rw (sub-one (suc k))

  pub counted_end : (left at : ℕ) → left ≤ 0 → counted step next left at ≡ end
  counted_end zero at h = refl
  counted_end (suc k) at h = absurd (not-suc-le-zero h)

  pub counted_more : (left at : ℕ) (a : A) → 0 < left → step at ≡ Ok a
      → counted step next left at ≡ more a (counted step next (left - 1) (next a))
  counted_more left at a h e =
      counted_link left at h ∙ ap (λ (o : Outcome A). link o (λ a. counted step next (left - 1) (next a))) e

  pub counted_stop : (left at : ℕ) (e : Refusal) → 0 < left → step at ≡ Err e → counted step next left at ≡ broken e
  counted_stop left at e h s =
      counted_link left at h ∙ ap (λ (o : Outcome A). link o (λ a. counted step next (left - 1) (next a))) s

module _ {A B C : Type 0} (f : C → B → C) (g : A → Outcome (List B)) (c : C) where
  module _ (w : Walk A) where
    pub collect_end : w ≡ end → folded f c (collect g w) ≡ Ok c
    collect_end h = rw h

    pub collect_broken : (e : Refusal) → w ≡ broken e → folded f c (collect g w) ≡ Err e
    collect_broken e h = rw h

    pub collect_turn : (a : A) (rest : Walk A) (c' : C) → w ≡ more a rest → Ok c' ≡ folded f c (g a)
        → folded f c (collect g w) ≡ folded f c' (collect g rest)
    collect_turn a rest c' h e = rw h (both_go f c (g a) (collect g rest) c' e)

    pub collect_leave : (a : A) (rest : Walk A) (e : Refusal) → w ≡ more a rest → Err e ≡ folded f c (g a)
        → folded f c (collect g w) ≡ Err e
    collect_leave a rest e h s = rw h (both_leave f c (g a) (collect g rest) e s)

module _ {A B C : Type 0} (f : C → B → C) (g : A → Outcome (List B)) (step : ℕ → Outcome A) (next : A → ℕ)
    (at : ℕ) (a : A) (read : step at ≡ Ok a) (again : next a ≡ at) where
  steady : (c : C) → Ok c ≡ folded f c (g a) → (count : ℕ)
      → folded f c (collect g (counted step next count at)) ≡ Ok c
  steady c same zero = refl
  steady c same (suc count) =
      collect_turn f g c (counted step next (suc count) at) a (counted step next count at) c
      (ap (λ (o : Outcome A). link o (λ a. counted step next count (next a))) read
      ∙ ap (λ (k : ℕ). more a (counted step next count k)) again)
      same
      ∙ steady c same count

  pub counted_repeat : (c c' : C) (left : ℕ) → 0 < left → Ok c' ≡ folded f c (g a) → Ok c' ≡ folded f c' (g a)
      → folded f c (collect g (counted step next left at)) ≡ Ok c'
  counted_repeat c c' left some once same =
      collect_turn f g c (counted step next left at) a (counted step next (left - 1) at) c'
      (counted_more step next left at a some read ∙ ap (λ (k : ℕ). more a (counted step next (left - 1) k)) again)
      once
      ∙ steady c' same (left - 1)
