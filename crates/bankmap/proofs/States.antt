-- The states of the cores, lane by lane.
use Rattle.std.proofs.Common.{◌≡◌, ℕ, suc, ◌+◌, ◌<◌, ◌≤◌, Bool, true, false, cond, ◌||◌, List, length, get_or, set, replicate, Some, None, Option, unwrap_or, sym, refl, ap, ◌∙◌, ⊎_elim, add-one, arith}
use Rattle.std.proofs.lemmas.List.FromFn.{fill_by_all, get_or-map-range_with_len}
use Rattle.std.proofs.lemmas.List.{length-set, get_or-set_same, get_or-set_other, get_or-replicate}
use Rattle.std.proofs.lemmas.Bool.{cases_eq, or_right, cond-true, eq-eqb, ne_eqb}
use Rattle.std.specs.Option.{MatchOption}
use Rattle.bank.specs.Meaning.{Meaning, Rules}
use Rattle.bank.proofs.Filled.{counted_same}
use Rattle.bank.proofs.Rising.{capacity_rises}
use Rattle.bankmap.specs.Survey.{FewestLevel, is_core, lanes_have, serves, with_state, core_state, core_states}
use Rattle.bankmap.specs.declared.survey.CoreState.{CoreState}
use Rattle.bankmap.specs.declared.survey.CoreState.TheVariants.{Usable, Withheld, Out}

module _ (m : Meaning) (t : ℕ) (s : CoreState) (states : List CoreState) where
  -- the cores of the first n lanes have the new state
  abbrev pub Changed : ℕ → List CoreState → Type 0
  Changed n xs = (length xs ≡ 64) × ((c : ℕ) → c < 64 → get_or xs c Out ≡ cond (lanes_have m t c n) s (get_or states c Out))

  or_false : (a b : Bool) → b ≡ false → a ≡ (a || b)
  or_false true b h = refl
  or_false false b h = sym h

  -- the next lane has no core that is new to c
  kept : (n c : ℕ) (x : CoreState) → is_core (m.core m.top t n) c ≡ false → cond (lanes_have m t c n) s x ≡ cond (lanes_have m t c (n + 1)) s x
  kept n c x h = rw (add-one n) (ap (λ b. cond b s x) (or_false (lanes_have m t c n) (is_core (m.core m.top t n) c) h))

  pub changed_none : (n : ℕ) (xs : List CoreState) → m.core m.top t n ≡ None → Changed n xs → Changed (n + 1) xs
  changed_none n xs e h = (h.0, λ c l. h.1 c l ∙ kept n c (get_or states c Out) (ap (λ o. is_core o c) e))

  pub changed_more : (n d : ℕ) (xs : List CoreState) → m.core m.top t n ≡ Some d → d < 64 → Changed n xs → Changed (n + 1) (set xs d s)
  changed_more n d xs e small h = (length-set xs d s ∙ h.0, λ c l. ⊎_elim (here c) (apart c l) (cases_eq c d))
    where
      here : (c : ℕ) → c ≡ d → get_or (set xs d s) c Out ≡ cond (lanes_have m t c (n + 1)) s (get_or states c Out)
      here c is =
          let has : is_core (m.core m.top t n) c ≡ true = ap (λ o. is_core o c) e ∙ eq-eqb d c (sym is) in
          ap (λ i. get_or (set xs d s) i Out) is ∙ get_or-set_same xs d s Out (omega (arith, h.0)) ∙
          rw (add-one n) (sym (cond-true (lanes_have m t c (suc n)) s (get_or states c Out) (or_right (lanes_have m t c n) (is_core (m.core m.top t n) c) has)))

      apart : (c : ℕ) → c < 64 → (c ≡ d → ⊥) → get_or (set xs d s) c Out ≡ cond (lanes_have m t c (n + 1)) s (get_or states c Out)
      apart c l ne =
          get_or-set_other xs d c s Out ne ∙ h.1 c l ∙
          kept n c (get_or states c Out) (ap (λ o. is_core o c) e ∙ ne_eqb d c (λ q. ne (sym q)))

  pub changed_all : (n : ℕ) (xs : List CoreState) → n ≡ m.capacity m.top t → Changed n xs → xs ≡ with_state m t s states
  changed_all n xs e h = fill_by_all (λ c. cond (serves m t c) s (get_or states c Out)) xs 64 Out h.0
      (λ c l. h.1 c l ∙ ap (λ k. cond (lanes_have m t c k) s (get_or states c Out)) e)

pub states_of : (bottom pile : Meaning) (t : ℕ) → with_state pile t Usable (with_state bottom t Withheld (replicate 64 Out)) ≡ core_states bottom pile t
states_of bottom pile t =
    counted_same (λ c. cond (serves pile t c) Usable (get_or (with_state bottom t Withheld (replicate 64 Out)) c Out)) (core_state bottom pile t) 0 64
    (λ c l. ap (λ x. cond (serves pile t c) Usable x)
    (get_or-map-range_with_len (λ k. cond (serves bottom t k) Withheld (get_or (replicate 64 Out) k Out)) 0 64 c c Out l (omega arith) ∙
    ap (λ x. cond (serves bottom t c) Withheld x) (get_or-replicate 64 c Out Out l)))

-- the level at which the capacity is first as high as at the top
pub fewest_is : (m : Meaning) → Rules m → (t top all r : ℕ) → top ≡ m.top → all ≡ m.capacity top t → r ≤ top → all ≤ m.capacity r t →
    ((k : ℕ) → k < r → m.capacity k t < all) → FewestLevel m t r
fewest_is m rules t top all r is_top is_all low high fewer =
    let at_top = ap (λ k. m.capacity k t) is_top in
    record {
      at_most_top = omega arith;
      as_many = omega (arith, capacity_rises m rules t r m.top (omega arith) (omega arith));
      no_lower = λ k h. let few = fewer k h in omega arith;
    }

-- the same of the first level that is found, or else of the top level
pub fewest_found : (m : Meaning) → Rules m → (t top all r : ℕ) (found : Option ℕ) → top ≡ m.top → all ≡ m.capacity top t → r ≡ unwrap_or found top →
    MatchOption found ((k : ℕ) → 0 ≤ k → k < top → m.capacity k t < all)
    (λ i. (0 ≤ i) × (i < top) × (all ≤ m.capacity i t) × ((k : ℕ) → 0 ≤ k → k < i → m.capacity k t < all)) → FewestLevel m t r
fewest_found m rules t top all r None is_top is_all is fewer = fewest_is m rules t top all r is_top is_all (omega arith) (rw is (omega arith)) (λ k h. fewer k (omega arith) (omega arith))
fewest_found m rules t top all r (Some i) is_top is_all is (least, below, many, fewer) =
    fewest_is m rules t top all r is_top is_all (omega arith) (rw is many) (λ k h. fewer k (omega arith) (omega arith))

-- a lane's core at the level that is the top
pub top_core : (m : Meaning) (t top i : ℕ) (o : Option ℕ) → top ≡ m.top → o ≡ m.core top t i → m.core m.top t i ≡ o
top_core m t top i o is_top is = ap (λ k. m.core k t i) (sym is_top) ∙ sym is

pub core_below : (m : Meaning) → Rules m → (t i c : ℕ) → m.core m.top t i ≡ Some c → c < 64
core_below m rules t i c e = let low = rules.powered m.top t i c e in omega (arith, rules.top_most)
