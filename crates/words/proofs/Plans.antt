-- Laws of plans: how a plan cut at a budget is carried out, and stores in a part of a list said of the whole. They hold of any plan, so
-- that every phase of every call is answered by the same few of them. Assumes nothing.
use mathlib.Core.Path.{◌≡◌, refl, sym, ap, ◌∙◌, subst}
use mathlib.Core.Bool.{cond}
use mathlib.Core.List.{List, [], ◌∷◌, ◌++◌, map}
use Prim.Native.Nat.{ℕ, zero, suc, ◌+◌, ◌-◌, ◌*◌, ◌<◌, ◌≤◌, min}
use native.Mathlib.Nat.{zero-add, add-zero, not-suc-le-zero, le_of_suc-le-suc, zero-sub, suc-sub-suc, sub-zero}
use native.Mathlib.Numerals.{add-one}
use native.Mathlib.Omega.{arith}
use borrow.Author.Tests.{eqb-true, eqb-false, lt-ltb, le-ltb}
use borrow.Rule.Slice.PartMut.{put_mid, mid_of, post_of, put_same}
use lib.Dec.{ltb, eqb}
use lib.ListN.{length, get_or, take, drop, set, length-set}
use lib.Seq.{take-nil, get_or-set_other, get_or-set_same, set-get_or, set_comm, take-set-le, take-set-lt, drop-set-add, drop-set-lt}
use Rattle.words.specs.Stores.{tab, tab_from, run, Store, ◌≔◌, store, stores}
use Rattle.words.specs.Cells.{copy_plan, cell_plan, Copied}
use Rattle.words.proofs.Scan.{by_bool, by_le}

-- ---- lists made by a rule

module _ {A : Type 0} (f : ℕ → A) where
  pub length_tab_from : (at n : ℕ) → length (tab_from f at n) ≡ n
  length_tab_from at zero = refl
  length_tab_from at (suc n) = ap suc (length_tab_from (suc at) n)

  pub get_or_tab_from : (at n i : ℕ) (d : A) → i < n → get_or (tab_from f at n) i d ≡ f (at + i)
  get_or_tab_from at zero i d h = absurd (not-suc-le-zero h)
  get_or_tab_from at (suc n) zero d h = ap f (sym (add-zero at))
  get_or_tab_from at (suc n) (suc i) d h = get_or_tab_from (suc at) n i d (le_of_suc-le-suc h) ∙ ap f (omega arith)

  pub length_tab : (n : ℕ) → length (tab n f) ≡ n
  length_tab n = length_tab_from 0 n

  pub get_or_tab : (n i : ℕ) (d : A) → i < n → get_or (tab n f) i d ≡ f i
  get_or_tab n i d h = get_or_tab_from 0 n i d h ∙ ap f (zero-add i)

-- a part of such a list, and one with an element more
module _ {A : Type 0} (f : ℕ → A) where
  take_tab_from : (at n k : ℕ) → k ≤ n → take k (tab_from f at n) ≡ tab_from f at k
  take_tab_from at n zero h = refl
  take_tab_from at zero (suc k) h = absurd (not-suc-le-zero h)
  take_tab_from at (suc n) (suc k) h = ap {B = List A} (λ l. f at ∷ l) (take_tab_from (suc at) n k (le_of_suc-le-suc h))

  pub take_tab : (n k : ℕ) → k ≤ n → take k (tab n f) ≡ tab k f
  take_tab n k h = take_tab_from 0 n k h

  tab_from_last : (at n : ℕ) → tab_from f at (suc n) ≡ tab_from f at n ++ f (at + n) ∷ []
  tab_from_last at zero = let z : at ≡ at + 0 = omega arith in ap (λ (i : ℕ). f i ∷ []) z
  tab_from_last at (suc n) =
      let z : suc at + n ≡ at + suc n = omega arith in
      ap {B = List A} (λ l. f at ∷ l) (tab_from_last (suc at) n ∙ ap (λ (i : ℕ). tab_from f (suc at) n ++ f i ∷ []) z)

  pub tab_last : (n : ℕ) → tab (suc n) f ≡ tab n f ++ f n ∷ []
  tab_last n = tab_from_last 0 n ∙ ap (λ (i : ℕ). tab n f ++ f i ∷ []) (zero-add n)

pub tab_shift : {A : Type 0} (f : ℕ → A) (at n : ℕ) → tab_from f (suc at) n ≡ tab_from (λ i. f (suc i)) at n
tab_shift f at zero = refl
tab_shift {A} f at (suc n) = ap {B = List A} (λ l. f (suc at) ∷ l) (tab_shift f (suc at) n)

pub tab_same : {A : Type 0} (f g : ℕ → A) (at n : ℕ) → ((i : ℕ) → f i ≡ g i) → tab_from f at n ≡ tab_from g at n
tab_same f g at zero h = refl
tab_same {A} f g at (suc n) h =
    ap (λ (x : A). x ∷ tab_from f (suc at) n) (h at) ∙ ap {B = List A} (λ l. g at ∷ l) (tab_same f g (suc at) n h)

tab_from_below : {A : Type 0} (f g : ℕ → A) (at n : ℕ) → ((i : ℕ) → i < n → f (at + i) ≡ g (at + i)) → tab_from f at n ≡ tab_from g at n
tab_from_below f g at zero h = refl
tab_from_below {A} f g at (suc n) h =
    let z : at + 0 ≡ at = add-zero at in
    ap (λ (x : A). x ∷ tab_from f (suc at) n) (subst (λ (i : ℕ). f i ≡ g i) z (h 0 (omega arith)))
    ∙ ap {B = List A} (λ l. g at ∷ l) (tab_from_below f g (suc at) n (λ i l.
    let s : at + suc i ≡ suc at + i = omega arith in
    subst (λ (j : ℕ). f j ≡ g j) s (h (suc i) (omega arith))))

pub tab_below : {A : Type 0} (f g : ℕ → A) (n : ℕ) → ((i : ℕ) → i < n → f i ≡ g i) → tab n f ≡ tab n g
tab_below f g n h = tab_from_below f g 0 n (λ i l. subst (λ (j : ℕ). f j ≡ g j) (sym (zero-add i)) (h i l))

pub map_tab_from : {A B : Type 0} (f : A → B) (g : ℕ → A) (at n : ℕ) → map f (tab_from g at n) ≡ tab_from (λ i. f (g i)) at n
map_tab_from f g at zero = refl
map_tab_from {A} {B} f g at (suc n) = ap {B = List B} (λ l. f (g at) ∷ l) (map_tab_from f g (suc at) n)

-- ---- cutting a list

pub take_map : {A B : Type 0} (f : A → B) (k : ℕ) (xs : List A) → take k (map f xs) ≡ map f (take k xs)
take_map f zero xs = refl
take_map f (suc k) [] = refl
take_map {A} {B} f (suc k) (x ∷ xs) = ap {B = List B} (λ l. f x ∷ l) (take_map f k xs)

module _ {A : Type 0} where
  pub take_append : (k : ℕ) (xs ys : List A) → take k (xs ++ ys) ≡ take k xs ++ take (k - length xs) ys
  take_append k [] ys = ap (λ (n : ℕ). take n ys) (sym (sub-zero k)) ∙ ap (λ (l : List A). l ++ take (k - 0) ys) (sym (take-nil k))
  take_append zero (x ∷ xs) ys = ap (λ (n : ℕ). take n ys) (sym (zero-sub (suc (length xs))))
  take_append (suc k) (x ∷ xs) ys =
      ap {B = List A} (λ l. x ∷ l) (take_append k xs ys ∙ ap (λ (n : ℕ). take k xs ++ take n ys) (sym (suc-sub-suc k (length xs))))

  -- a budget above the length is as good as the length
  pub take_min : (k n : ℕ) (xs : List A) → length xs ≡ n → take (min k n) xs ≡ take k xs
  take_min k n [] e = take-nil (min k n) ∙ sym (take-nil k)
  take_min zero n (x ∷ xs) e =
      let z : min 0 n ≡ 0 = omega arith in
      ap (λ (i : ℕ). take i (x ∷ xs)) z
  take_min (suc k) n (x ∷ xs) e =
      let z : min (suc k) n ≡ suc (min k (length xs)) = omega arith in
      ap (λ (i : ℕ). take i (x ∷ xs)) z ∙ ap {B = List A} (λ l. x ∷ l) (take_min k (length xs) xs refl)

  pub nil : (xs : List A) → length xs ≡ 0 → xs ≡ []
  nil [] e = refl
  nil (x ∷ xs) e = absurd (omega arith)

  -- P holds of each element
  abbrev pub Each : (A → Type 0) → List A → Type 0
  Each P [] = Unit {0}
  Each P (x ∷ xs) = P x × Each P xs

  pub each_take : (P : A → Type 0) (k : ℕ) (xs : List A) → Each P xs → Each P (take k xs)
  each_take P zero xs h = tt
  each_take P (suc k) [] h = tt
  each_take P (suc k) (x ∷ xs) h = (h.0, each_take P k xs h.1)

  pub each_append : (P : A → Type 0) (xs ys : List A) → Each P xs → Each P ys → Each P (xs ++ ys)
  each_append P [] ys h k = k
  each_append P (x ∷ xs) ys h k = (h.0, each_append P xs ys h.1 k)

  pub each_tab_from : (P : A → Type 0) (f : ℕ → A) (at n : ℕ) → ((i : ℕ) → i < n → P (f (at + i))) → Each P (tab_from f at n)
  each_tab_from P f at zero h = tt
  each_tab_from P f at (suc n) h = (
    subst (λ (i : ℕ). P (f i)) (add-zero at) (h 0 (omega arith)),
    each_tab_from P f (suc at) n (λ i l. subst (λ (m : ℕ). P (f m)) (omega arith) (h (suc i) (omega arith))),
  )

  pub each_tab : (P : A → Type 0) (f : ℕ → A) (n : ℕ) → ((i : ℕ) → i < n → P (f i)) → Each P (tab n f)
  each_tab P f n h = each_tab_from P f 0 n (λ i l. subst (λ (m : ℕ). P (f m)) (sym (zero-add i)) (h i l))

  pub each_map : (P Q : A → Type 0) (xs : List A) → ((x : A) → P x → Q x) → Each P xs → Each Q xs
  each_map P Q [] f h = tt
  each_map P Q (x ∷ xs) f h = (f x h.0, each_map P Q xs f h.1)

  pub each_at : (P : A → Type 0) (xs : List A) (j : ℕ) (d : A) → Each P xs → j < length xs → P (get_or xs j d)
  each_at P [] j d h l = absurd (not-suc-le-zero l)
  each_at P (x ∷ xs) zero d h l = h.0
  each_at P (x ∷ xs) (suc j) d h l = each_at P xs j d h.1 (le_of_suc-le-suc l)

-- ---- carrying out

module _ {A S : Type 0} (f : A → S → S) where
  pub run_append : (xs ys : List A) (s : S) → run f (xs ++ ys) s ≡ run f ys (run f xs s)
  run_append [] ys s = refl
  run_append (x ∷ xs) ys s = run_append xs ys (f x s)

  -- a budget for two plans in a row: what the first leaves of it is the second's
  pub run_take_append : (k : ℕ) (xs ys : List A) (s : S)
      → run f (take k (xs ++ ys)) s ≡ run f (take (k - length xs) ys) (run f (take k xs) s)
  run_take_append k xs ys s =
      ap (λ (l : List A). run f l s) (take_append k xs ys) ∙ run_append (take k xs) (take (k - length xs) ys) s

  -- one step more
  pub run_take_suc : (j : ℕ) (xs : List A) (s : S) (d : A) → j < length xs
      → run f (take (suc j) xs) s ≡ f (get_or xs j d) (run f (take j xs) s)
  run_take_suc j [] s d h = absurd (not-suc-le-zero h)
  run_take_suc zero (x ∷ xs) s d h = refl
  run_take_suc (suc j) (x ∷ xs) s d h = run_take_suc j xs (f x s) d (le_of_suc-le-suc h)

  -- the turn of a loop over a plan that is given by a rule
  pub run_take_tab : (j n : ℕ) (g : ℕ → A) (s : S) → j < n
      → f (g j) (run f (take j (tab n g)) s) ≡ run f (take (j + 1) (tab n g)) s
  run_take_tab j n g s h =
      ap (λ (x : A). f x (run f (take j (tab n g)) s)) (sym (get_or_tab g n j (g j) h))
      ∙ sym (run_take_suc j (tab n g) s (g j) (subst (λ (m : ℕ). j < m) (sym (length_tab g n)) h))
      ∙ ap (λ (m : ℕ). run f (take m (tab n g)) s) (sym (add-one j))

-- ---- stores of a list

pub length_stores : (ps : List Store) (l : List ℕ) → length (stores ps l) ≡ length l
length_stores [] l = refl
length_stores (p ∷ ps) l = length_stores ps (store p l) ∙ length-set l p.at p.val

pub stores_none : (k : ℕ) (l : List ℕ) → l ≡ stores (take k []) l
stores_none zero l = refl
stores_none (suc k) l = refl

-- an index that no store names keeps its value
pub get_or_stores : (ps : List Store) (l : List ℕ) (i : ℕ) → Each (λ s. i ≡ s.at → ⊥) ps → get_or (stores ps l) i 0 ≡ get_or l i 0
get_or_stores [] l i h = refl
get_or_stores (p ∷ ps) l i h = get_or_stores ps (store p l) i h.1 ∙ get_or-set_other l p.at i p.val 0 h.0

-- stores from index `low` on keep what lies in front of it
pub get_d_front : (ps : List Store) (t : List ℕ) (low i : ℕ) → Each (λ s. low ≤ s.at) ps → i < low → get_or (stores ps t) i 0 ≡ get_or t i 0
get_d_front ps t low i h l = get_or_stores ps t i (each_map (λ s. low ≤ s.at) (λ s. i ≡ s.at → ⊥) ps (λ s b e. omega arith) h)

pub take_front : (ps : List Store) (t : List ℕ) (low : ℕ) → Each (λ s. low ≤ s.at) ps → take low (stores ps t) ≡ take low t
take_front [] t low h = refl
take_front (p ∷ ps) t low h = take_front ps (store p t) low h.1 ∙ take-set-le low t p.at p.val h.0

-- a store that keeps out of the others' way may come before or after them
pub stores_set : (ws : List Store) (t : List ℕ) (i v : ℕ) → Each (λ s. s.at ≡ i → ⊥) ws → stores ws (set t i v) ≡ set (stores ws t) i v
stores_set [] t i v h = refl
stores_set (w ∷ ws) t i v h =
    ap (stores ws) (set_comm t i w.at v w.val (λ e. h.0 (sym e))) ∙ stores_set ws (store w t) i v h.1

pub take_stores : (ws : List Store) (t : List ℕ) (n : ℕ) → Each (λ s. s.at < n) ws → take n (stores ws t) ≡ stores ws (take n t)
take_stores [] t n h = refl
take_stores (w ∷ ws) t n h = take_stores ws (store w t) n h.1 ∙ ap (stores ws) (take-set-lt n t w.at w.val h.0)

-- the stores' indices rise strictly
abbrev pub Rising : List Store → Type 0
Rising [] = Unit {0}
Rising (w ∷ ws) = Each (λ s. w.at < s.at) ws × Rising ws

-- once more from the start, after a cut
pub replay : (ws : List Store) (t : List ℕ) (j : ℕ) → Rising ws → Each (λ s. s.at < length t) ws → stores ws (stores (take j ws) t) ≡ stores ws t
replay ws t zero r h = refl
replay [] t (suc j) r h = refl
replay (w ∷ ws) t (suc j) r h =
    let t₁ : List ℕ = store w t in
    let t₂ : List ℕ = stores (take j ws) t₁ in
    let kept : get_or t₂ w.at 0 ≡ w.val =
    get_or_stores (take j ws) t₁ w.at (each_take (λ s. w.at ≡ s.at → ⊥) j ws (each_map (λ s. w.at < s.at) (λ s. w.at ≡ s.at → ⊥) ws (λ s l e. omega arith) r.0))
    ∙ get_or-set_same t w.at w.val 0 h.0 in
    let idem : store w t₂ ≡ t₂ = ap (set t₂ w.at) (sym kept) ∙ set-get_or t₂ w.at 0 in
    let long : Each (λ s. s.at < length t₁) ws = rw length-set h.1 in
    ap (stores ws) idem ∙ replay ws t₁ j r.1 long

-- ---- stores in a part of a list

-- the same store in the whole
abbrev pub shift : ℕ → Store → Store
shift a s = a + s.at ≔ s.val

pub stores_part : (a k : ℕ) (xs : List ℕ) (ps : List Store) → Each (λ s. s.at < k) ps
    → put_mid a k xs (stores ps (mid_of a k xs)) ≡ stores (map (shift a) ps) xs
stores_part a k xs [] h = put_same a k xs
stores_part a k xs (p ∷ ps) h =
    let ys : List ℕ = set xs (a + p.at) p.val in
    let d : drop a ys ≡ set (drop a xs) p.at p.val = drop-set-add a xs p.at p.val in
    let mid : mid_of a k ys ≡ set (mid_of a k xs) p.at p.val = ap (take k) d ∙ take-set-lt k (drop a xs) p.at p.val h.0 in
    let post : post_of a k ys ≡ post_of a k xs = ap (drop k) d ∙ drop-set-lt k (drop a xs) p.at p.val h.0 in
    let front : take a ys ≡ take a xs = take-set-le a xs (a + p.at) p.val (omega arith) in
    rw (← mid, ← post, ← front) (stores_part a k ys ps h.1)

-- ---- the plans of a copy

pub length_copy_plan : (s : List ℕ) → length (copy_plan s) ≡ 64
unfolding copy_plan
length_copy_plan s = length_tab (λ j. j ≔ get_or s j 0) 64

pub length_cell_plan : (s : List ℕ) (from to : ℕ) → length (cell_plan s from to) ≡ 64
unfolding cell_plan
length_cell_plan s from to = length_tab (λ j. 64 * to + j ≔ get_or s (64 * from + j) 0) 64

-- a turn of the loop that copies
pub copy_turn : (s d₀ d : List ℕ) (j : ℕ) → j < 64 → d ≡ stores (take j (copy_plan s)) d₀
    → set d j (get_or s j 0) ≡ stores (take (j + 1) (copy_plan s)) d₀
unfolding copy_plan
copy_turn s d₀ d j h e = rw e (run_take_tab store j 64 (λ i. i ≔ get_or s i 0) d₀ h)

-- and of one that stores a quarter of the bytes, from `at` on, which was read before
pub quarter_turn : (s d₀ quarter d : List ℕ) (at j : ℕ) → at + 16 ≤ 64 → j < 16 → (j < 16 → get_or quarter j 0 ≡ get_or s (at + j) 0) → Copied s d₀ (at + j) d
    → Copied s d₀ (at + (j + 1)) (set d (at + j) (get_or quarter j 0))
quarter_turn s d₀ quarter d at j fits l same h =
    let next : at + j + 1 ≡ at + (j + 1) = omega arith in
    ap (set d (at + j)) (same l) ∙ copy_turn s d₀ d (at + j) (omega arith) h ∙ ap (λ (n : ℕ). stores (take n (copy_plan s)) d₀) next

-- ---- stores in a row

pub run_stored : (base n : ℕ) (h : ℕ → ℕ) (l : List ℕ) (j : ℕ) → base + n ≤ length l
    → get_or (stores (tab n (λ i. base + i ≔ h i)) l) (base + j) 0 ≡ cond (ltb j n) (h j) (get_or l (base + j) 0)
run_stored base zero h l j fits = rw (le-ltb j 0 (omega arith))
run_stored base (suc n) h l j fits =
    let f : ℕ → Store = λ i. base + i ≔ h i in
    let whole : stores (tab (suc n) f) l ≡ set (stores (tab n f) l) (base + n) (h n) =
    ap (λ (ps : List Store). stores ps l) (tab_last f n) ∙ run_append store (tab n f) (f n ∷ []) l in
    ap (λ (x : List ℕ). get_or x (base + j) 0) whole
    ∙ by_bool (eqb j n)
    (λ z.
    let q = eqb-true j n z in
    rw (q, lt-ltb n (suc n) (omega arith)) (get_or-set_same (stores (tab n f) l) (base + n) (h n) 0 (rw (length_stores (tab n f) l) (omega arith))))
    (λ z.
    let ne = eqb-false j n z in
    get_or-set_other (stores (tab n f) l) (base + n) (base + j) (h n) 0 (λ q. ne (omega arith))
    ∙ run_stored base n h l j (omega arith)
    ∙ by_le n j
    (λ le. rw (le-ltb j n le, le-ltb j (suc n) (omega (arith, ne))))
    (λ lt. rw (lt-ltb j n lt, lt-ltb j (suc n) (omega arith))))
