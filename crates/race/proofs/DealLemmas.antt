-- Passes on their way to the workers and back.
use Rattle.std.proofs.Common.{ℕ, ◌≡◌, ◌≢◌, ◌<◌, ◌≤◌, ◌+◌, ◌*◌, ◌++◌, ◌∙◌, ◌⊎◌, ◌==◌, true, false, List, [], ◌∷◌, None, Some, inl, inr, ⊎_elim, length, set, get_or, drop}
use Rattle.std.proofs.Common.{refl, sym, subst, ap, arith, zero, suc, eqb-true, eq-eqb, length-append, length-drop, length-set}
use Rattle.std.specs.Prelude.{slice_get, vec_capacity}
use Rattle.std.proofs.lemmas.Option.{slice_get_within, slice_get-get_or}
use Rattle.shared_tee.specs.Passes.{PassView}
use Rattle.race.specs.Dealing.{AreDealt, AreIdle, IsIdle}
use Rattle.race.specs.Workers.{HaveAll}
use Rattle.race.specs.declared.worker.Worker.{Worker}

-- ---- lists

pub get_last : {X : Type 0} (xs : List X) (x : X) → slice_get (xs ++ x ∷ []) (length xs) ≡ Some x
get_last [] x = refl
get_last (y ∷ xs) x = get_last xs x

pub get_front : {X : Type 0} (xs ys : List X) (i : ℕ) → i < length xs → slice_get (xs ++ ys) i ≡ slice_get xs i
get_front [] ys i lt = absurd (omega (arith, lt))
get_front (x ∷ xs) ys zero lt = refl
get_front (x ∷ xs) ys (suc i) lt = get_front xs ys i (omega (arith, lt))

pub get_snoc : {X : Type 0} (xs : List X) (x y : X) (i : ℕ) → slice_get (xs ++ x ∷ []) i ≡ Some y → (slice_get xs i ≡ Some y) ⊎ ((i ≡ length xs) × (y ≡ x))
get_snoc [] x y zero here = inr (refl, (let e : Some x ≡ Some y = here in cc (e)))
get_snoc [] x y (suc i) here = absurd (let e : None ≡ Some y = here in cc)
get_snoc (z ∷ xs) x y zero here = inl here
get_snoc (z ∷ xs) x y (suc i) here = ⊎_elim (λ front. inl front) (λ last. inr (ap (λ n. suc n) last.0, last.1)) (get_snoc xs x y i here)

pub get_set_cases : {X : Type 0} (xs : List X) (i j : ℕ) (x y : X) → slice_get (set xs i x) j ≡ Some y → ((j ≡ i) × (y ≡ x)) ⊎ ((j ≢ i) × (slice_get xs j ≡ Some y))
get_set_cases [] i j x y here = absurd (let e : None ≡ Some y = here in cc)
get_set_cases (z ∷ xs) zero zero x y here = inl (refl, (let e : Some x ≡ Some y = here in cc (e)))
get_set_cases (z ∷ xs) zero (suc j) x y here = inr ((λ same. absurd (omega (arith, same))), here)
get_set_cases (z ∷ xs) (suc i) zero x y here = inr ((λ same. absurd (omega (arith, same))), here)
get_set_cases (z ∷ xs) (suc i) (suc j) x y here =
    ⊎_elim (λ same. inl (ap (λ n. suc n) same.0, same.1)) (λ other. inr ((λ same. other.0 (omega (arith, same))), other.1)) (get_set_cases xs i j x y here)

pub get_drop : {X : Type 0} (xs : List X) (k i : ℕ) → slice_get (drop k xs) i ≡ slice_get xs (k + i)
get_drop xs zero i = ap (λ n. slice_get xs n) (let e : i ≡ 0 + i = omega arith in e)
get_drop [] (suc k) i = refl
get_drop (x ∷ xs) (suc k) i = get_drop xs k i ∙ ap (λ n. slice_get (x ∷ xs) n) (let e : suc (k + i) ≡ suc k + i = omega arith in e)

drop_next : {X : Type 0} (xs : List X) (k : ℕ) → drop 1 (drop k xs) ≡ drop (suc k) xs
drop_next xs zero = refl
drop_next [] (suc k) = refl
drop_next (x ∷ xs) (suc k) = drop_next xs k

pub drop_more : {X : Type 0} (xs : List X) (k : ℕ) → drop 1 (drop k xs) ≡ drop (k + 1) xs
drop_more xs k = drop_next xs k ∙ ap (λ n. drop n xs) (let e : suc k ≡ k + 1 = omega arith in e)

-- what is found at a place within
pub found_at : {X : Type 0} (xs : List X) (i : ℕ) (x : X) → x ≡ get_or xs i x → i < length xs → slice_get xs i ≡ Some x
found_at xs i x is lt = slice_get-get_or xs i x lt ∙ ap (λ y. Some y) (sym is)

-- the first of what is left
pub next_at : {X : Type 0} (all left : List X) (k : ℕ) (x : X) → left ≡ drop k all → slice_get left 0 ≡ Some x → slice_get all k ≡ Some x
next_at all left k x is first = ap (λ n. slice_get all n) (let e : k ≡ k + 0 = omega arith in e) ∙ (sym (get_drop all k 0) ∙ (ap (λ xs. slice_get xs 0) (sym is) ∙ first))

-- nothing is left
pub none_left : {X : Type 0} (all left : List X) (k : ℕ) → left ≡ drop k all → length left ≡ 0 → k ≤ length all → k ≡ length all
none_left all left k is none few = let e = length-drop k all in let n = ap (λ xs. length xs) is in omega (arith, e, n, none, few)

-- ---- workers without passes

module _ {V A : Type 0} where
  -- the first of them, so many
  pub record AreIdleTo (count clients : ℕ) (workers : List (Worker V A)) : Type 0 where
    pub size : length workers ≡ clients
    pub each : (client : ℕ) (w : Worker V A) → slice_get workers client ≡ Some w → IsIdle count client w

  pub idle_none : (count : ℕ) → AreIdleTo count 0 []
  idle_none count = record { size = refl; each = λ client w here. absurd (let e : None ≡ Some w = here in cc) }

  pub idle_more : (count clients : ℕ) (workers : List (Worker V A)) (w : Worker V A) → AreIdleTo count clients workers → IsIdle count clients w → AreIdleTo count (clients + 1) (workers ++ w ∷ [])
  idle_more count clients workers w so one = record {
    size = let n = so.size in omega (arith, n, length-append workers (w ∷ []));
    each = λ client v here. ⊎_elim (λ front. so.each client v front)
        (λ last. subst (λ c. IsIdle count c v) (sym (last.0 ∙ so.size)) (subst (λ x. IsIdle count clients x) (sym last.1) one))
        (get_snoc workers w v client here);
  }

-- ---- the first passes dealt

module _ {V A : Type 0} (count : ℕ) (all : List (PassView V A)) where
  -- the first passes, so many, were dealt: the worker of this client has its own of them
  pub record HasFirst (dealt client : ℕ) (w : Worker V A) : Type 0 where
    pub client_is : w.client ≡ client
    pub least : dealt ≤ 8 * length w.passes.items + client
    pub most : 8 * length w.passes.items + client < dealt + 8
    pub each : (app : ℕ) → app < length w.passes.items → slice_get w.passes.items app ≡ slice_get all (8 * app + client)
    pub room : count ≤ vec_capacity w.passes

  -- so it is with each of eight workers
  pub record AreFirstDealt (dealt : ℕ) (workers : List (Worker V A)) : Type 0 where
    pub eight : length workers ≡ 8
    pub each : (client : ℕ) (w : Worker V A) → slice_get workers client ≡ Some w → HasFirst dealt client w

  pub none_dealt : (workers : List (Worker V A)) → AreIdle count workers → AreFirstDealt 0 workers
  none_dealt workers idle = record {
    eight = idle.eight;
    each = λ client w here. let one = idle.each client w here in let n = ap (λ (ps : List (PassView V A)). length ps) one.none in
        let within = slice_get_within workers client w here in let e = idle.eight in record {
          client_is = one.client_is;
          least = omega arith;
          most = omega (arith, n, within, e);
          each = λ app lt. absurd (omega (arith, n, lt));
          room = one.room;
        };
  }

  module _ (workers : List (Worker V A)) (k : ℕ) (was : AreFirstDealt k workers) (p : PassView V A) (here : slice_get all k ≡ Some p)
      (client_ok : p.client < 8) (place : k ≡ 8 * p.app + p.client) (size : length all ≡ 8 * count) where
    pub client_within : p.client < length workers
    client_within = let e = was.eight in omega (arith, e, client_ok)

    module _ (w : Worker V A) (there : slice_get workers p.client ≡ Some w) where
      own : HasFirst k p.client w
      own = was.each p.client w there

      so_many : length w.passes.items ≡ p.app
      so_many = let a = own.least in let b = own.most in omega (arith, a, b, place)

      pub has_room : length w.passes.items < vec_capacity w.passes
      has_room = let lt = slice_get_within all k p here in let r = own.room in omega (arith, lt, r, so_many, place, size)

      last_here : (app : ℕ) → app ≡ p.app → slice_get (w.passes.items ++ p ∷ []) app ≡ slice_get all (8 * app + p.client)
      last_here app is =
          ap (λ m. slice_get (w.passes.items ++ p ∷ []) m) (is ∙ sym so_many) ∙ (get_last w.passes.items p ∙ (sym here ∙ ap (λ m. slice_get all m) (omega (arith, place, is))))

      earlier_here : (app : ℕ) → app < p.app + 1 → app ≢ p.app → slice_get (w.passes.items ++ p ∷ []) app ≡ slice_get all (8 * app + p.client)
      earlier_here app lt ne = let less : app < length w.passes.items = omega (arith, lt, so_many, ne) in get_front w.passes.items (p ∷ []) app less ∙ own.each app less

      each_here : (app : ℕ) → app < p.app + 1 → slice_get (w.passes.items ++ p ∷ []) app ≡ slice_get all (8 * app + p.client)
      each_here app lt = elim (app == p.app) as (λ t. (app == p.app) ≡ t → slice_get (w.passes.items ++ p ∷ []) app ≡ slice_get all (8 * app + p.client)) [
        | true ↦ λ t. last_here app (eqb-true app p.app t)
        | false ↦ λ f. earlier_here app lt (λ same. absurd (let e : true ≡ false = sym (eq-eqb app p.app same) ∙ f in cc))
      ] refl

      module _ (new : Worker V A) (client_is : new.client ≡ w.client) (items_are : new.passes.items ≡ w.passes.items ++ p ∷ [])
          (capacity_is : vec_capacity new.passes ≡ vec_capacity w.passes) where
        longer : length new.passes.items ≡ p.app + 1
        longer = ap (λ (ps : List (PassView V A)). length ps) items_are ∙ (length-append w.passes.items (p ∷ []) ∙ ap (λ m. m + 1) so_many)

        has_more : HasFirst (k + 1) p.client new
        has_more = record {
          client_is = client_is ∙ own.client_is;
          least = omega (arith, longer, place);
          most = omega (arith, longer, place);
          each = λ app lt. ap (λ (ps : List (PassView V A)). slice_get ps app) items_are ∙ each_here app (omega (arith, lt, longer));
          room = let r = own.room in omega (arith, r, capacity_is);
        }

        other_has : (client : ℕ) (v : Worker V A) → client ≢ p.client → slice_get workers client ≡ Some v → HasFirst (k + 1) client v
        other_has client v ne at =
            let one = was.each client v at in let a = one.least in let b = one.most in let lt = slice_get_within workers client v at in let e = was.eight in
            record { client_is = one.client_is; least = omega (arith, a, ne, place, lt, e, client_ok); most = omega (arith, b); each = one.each; room = one.room }

        pub dealt_more : AreFirstDealt (k + 1) (set workers p.client new)
        dealt_more = record {
          eight = length-set workers p.client new ∙ was.eight;
          each = λ client v at. ⊎_elim
              (λ same. subst (λ c. HasFirst (k + 1) c v) (sym same.0) (subst (λ x. HasFirst (k + 1) p.client x) (sym same.1) has_more))
              (λ other. other_has client v other.0 other.1)
              (get_set_cases workers p.client client new v at);
        }

  pub all_dealt : (workers : List (Worker V A)) (k : ℕ) → length all ≡ 8 * count → k ≡ length all → AreFirstDealt k workers → AreDealt count all workers
  all_dealt workers k size is was = record {
    size = size;
    eight = was.eight;
    each = λ client w here. let one = was.each client w here in let a = one.least in let b = one.most in let lt = slice_get_within workers client w here in let e = was.eight in
        let n : length w.passes.items ≡ count = omega (arith, a, b, lt, e, size, is) in
        record { client_is = one.client_is; size = n; each = λ app less. one.each app (omega (arith, n, less)) };
  }

-- ---- the first passes back

module _ {V A : Type 0} where
  -- the first passes, so many, came back from workers: this one had these, and has the others still
  pub record HasRest (own rest : List (PassView V A)) (back client : ℕ) : Type 0 where
    pub given : ℕ
    pub least : back ≤ 8 * given + client
    pub most : 8 * given + client < back + 8
    pub rest_is : rest ≡ drop given own

module _ {V A : Type 0} (workers : List (Worker V A)) where
  -- so it is with each of eight workers, and these are the passes that came back
  pub record AreFirstBack (back : ℕ) (left : List (Worker V A)) (all : List (PassView V A)) : Type 0 where
    pub size : length all ≡ back
    pub eight : length left ≡ 8
    pub each : (client : ℕ) (v w : Worker V A) → slice_get workers client ≡ Some v → slice_get left client ≡ Some w → HasRest v.passes.items w.passes.items back client
    pub placed : (app client : ℕ) (v : Worker V A) → slice_get workers client ≡ Some v → 8 * app + client < back → slice_get all (8 * app + client) ≡ slice_get v.passes.items app

module _ {V A : Type 0} (count : ℕ) (workers : List (Worker V A)) (have : HaveAll count workers) where
  pub none_back : AreFirstBack workers 0 workers []
  none_back = record {
    size = refl;
    eight = have.eight;
    each = λ client v w here there. let lt = slice_get_within workers client v here in let e = have.eight in record {
      given = 0;
      least = omega arith;
      most = omega (arith, lt, e);
      rest_is = let is : w ≡ v = (let e : Some w ≡ Some v = sym there ∙ here in cc (e)) in ap (λ (x : Worker V A). x.passes.items) is;
    };
    placed = λ app client v here lt. absurd (omega (arith, lt));
  }

  module _ (app client : ℕ) (left : List (Worker V A)) (all : List (PassView V A)) (was : AreFirstBack workers (8 * app + client) left all) (app_ok : app < count) (client_ok : client < 8)
      (w : Worker V A) (there : slice_get left client ≡ Some w) where
    abbrev worker : Worker V A
    worker = get_or workers client w

    worker_there : slice_get workers client ≡ Some worker
    worker_there = let e = have.eight in slice_get-get_or workers client w (omega (arith, e, client_ok))

    rest_here : w.passes.items ≡ drop app worker.passes.items
    rest_here = let r = was.each client worker w worker_there there in let a = r.least in let b = r.most in
        r.rest_is ∙ ap (λ n. drop n worker.passes.items) (let e : r.given ≡ app = omega (arith, a, b) in e)

    pub some_left : 0 < length w.passes.items
    some_left = let e = length-drop app worker.passes.items in let n = ap (λ (ps : List (PassView V A)). length ps) rest_here in let s = have.size client worker worker_there in
        omega (arith, e, n, s, app_ok)

    module _ (x : PassView V A) (first : slice_get w.passes.items 0 ≡ Some x) (new : Worker V A) (rest : new.passes.items ≡ drop 1 w.passes.items) where
      own_rest : HasRest worker.passes.items new.passes.items (8 * app + client + 1) client
      own_rest = record {
        given = app + 1;
        least = omega arith;
        most = omega arith;
        rest_is = rest ∙ (ap (λ ps. drop 1 ps) rest_here ∙ drop_more worker.passes.items app);
      }

      other_rest : (c : ℕ) (v y : Worker V A) → c ≢ client → slice_get workers c ≡ Some v → slice_get left c ≡ Some y → HasRest v.passes.items y.passes.items (8 * app + client + 1) c
      other_rest c v y ne here at =
          let r = was.each c v y here at in let a = r.least in let b = r.most in let lt = slice_get_within workers c v here in let e = have.eight in
          record { given = r.given; least = omega (arith, a, ne, lt, e, client_ok); most = omega (arith, b); rest_is = r.rest_is }

      own_placed : (a c : ℕ) (v : Worker V A) → slice_get workers c ≡ Some v → 8 * a + c ≡ 8 * app + client → slice_get (all ++ x ∷ []) (8 * a + c) ≡ slice_get v.passes.items a
      own_placed a c v here same =
          let lt = slice_get_within workers c v here in let e = have.eight in
          let apps : a ≡ app = omega (arith, lt, e, client_ok, same) in
          let clients : c ≡ client = omega (arith, apps, same) in
          let is : v ≡ worker = (let q : Some v ≡ Some worker = sym here ∙ (ap (λ n. slice_get workers n) clients ∙ worker_there) in cc (q)) in
          ap (λ n. slice_get (all ++ x ∷ []) n) (same ∙ sym was.size) ∙ (get_last all x ∙ (sym (next_at worker.passes.items w.passes.items app x rest_here first)
          ∙ (ap (λ n. slice_get worker.passes.items n) (sym apps) ∙ ap (λ (y : Worker V A). slice_get y.passes.items a) (sym is))))

      pub back_more : AreFirstBack workers (8 * app + client + 1) (set left client new) (all ++ x ∷ [])
      back_more = record {
        size = let s = was.size in omega (arith, s, length-append all (x ∷ []));
        eight = length-set left client new ∙ was.eight;
        each = λ c v y here at. ⊎_elim
            (λ same. let is : v ≡ worker = (let q : Some v ≡ Some worker = sym here ∙ (ap (λ n. slice_get workers n) same.0 ∙ worker_there) in cc (q)) in
            subst (λ n. HasRest v.passes.items y.passes.items (8 * app + client + 1) n) (sym same.0)
            (subst (λ (z : Worker V A). HasRest z.passes.items y.passes.items (8 * app + client + 1) client) (sym is)
            (subst (λ (z : Worker V A). HasRest worker.passes.items z.passes.items (8 * app + client + 1) client) (sym same.1) own_rest)))
            (λ other. other_rest c v y other.0 here other.1)
            (get_set_cases left client c new y at);
        placed = λ a c v here lt. ⊎_elim
            (λ less. get_front all (x ∷ []) (8 * a + c) (let s = was.size in omega (arith, s, less)) ∙ was.placed a c v here less)
            (λ same. own_placed a c v here same)
            (let cases : (8 * a + c < 8 * app + client) ⊎ (8 * a + c ≡ 8 * app + client) = grind (arith, lt) in cases);
      }

  pub all_back : (left : List (Worker V A)) (all : List (PassView V A)) → AreFirstBack workers (8 * count) left all → AreDealt count all workers
  all_back left all was = record {
    size = was.size;
    eight = have.eight;
    each = λ client w here. let lt = slice_get_within workers client w here in let e = have.eight in record {
      client_is = have.client client w here;
      size = have.size client w here;
      each = λ app less. sym (was.placed app client w here (omega (arith, lt, e, less)));
    };
  }
