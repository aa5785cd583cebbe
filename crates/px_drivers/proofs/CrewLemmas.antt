-- How the account of the workers of rounds goes on.
use Rattle.std.proofs.Common.{◌≡◌, refl, sym, subst, ◌∙◌, ap, arith, ℕ, zero, suc, ◌+◌, ◌-◌, ◌*◌, ◌^◌, ◌<◌, ◌≤◌, ◌⊎◌, inl, inr, List, [], ◌∷◌, ◌++◌, length}
use Rattle.std.specs.Prelude.{Option, Some, None, slice_index_or, take, drop}
use Rattle.std.proofs.Math.Seq.{take-append_seam}
use Rattle.std.specs.List.{AllByRecursion}
use Rattle.std.proofs.lemmas.List.{length_push}
use Rattle.std.proofs.lemmas.Bool.{cases_lt}
use Rattle.px_io.specs.Faults.{Rose, RoseOnce}
use Rattle.px_io.proofs.FaultLemmas.{rose_once}
use Rattle.px_pool.specs.Talks.{Talk, Passes}
use Rattle.px_pool.specs.Starts.{Numbers, Counts, TellsAlike, GaveFrames, CountsEnded}
use Rattle.px_drivers.specs.declared.ends.Leaving.{Leaving}
use Rattle.px_drivers.specs.declared.ends.Leaving.TheVariants.{Start}
use Rattle.px_drivers.specs.Drivers.{DriverParts, counted, published, IsKept, IsDriven, AreDriven}
use Rattle.px_drivers.specs.Crews.{total, in_all, of_former, links_of, for_start, for_losses, left_so, HaveLostFew, Standing, Rises, RoseBy, CrewParts, IsAccountWith, IsAccountOf, IsAccount}
use Rattle.px_drivers.specs.Rounds.{IsEnd}
use Rattle.px_terms.proofs.Recursion.{all_push}

-- ---- sums and lists

pub total_behind : {X : Type 0} (f : X → ℕ) (xs : List X) (x : X) → total f (xs ++ x ∷ []) ≡ total f xs + f x
total_behind f [] x = omega arith
total_behind f (y ∷ ys) x = (let e : total f (ys ++ x ∷ []) ≡ total f ys + f x = total_behind f ys x in omega arith)

-- ---- what a spawner tells

rises_on : (p q r : Option Numbers) (f g l k m n more links : ℕ) → Rises p q f l m → Counts q r more links → g ≤ f + more → k ≤ l + links → m + links ≤ n → Rises p r g k n
rises_on None None None f g l k m n more links h c a b d = tt
rises_on None None (Some r) f g l k m n more links h c a b d = absurd c
rises_on None (Some q) r f g l k m n more links h c a b d = absurd h
rises_on (Some p) None r f g l k m n more links h c a b d = absurd h
rises_on (Some p) (Some q) None f g l k m n more links h c a b d = absurd c
rises_on (Some p) (Some q) (Some r) f g l k m n more links h c a b d =
    let h0 : p.given + f ≤ q.given = h.0 in let h1 : p.started + l ≤ q.started = h.1 in let h2 : q.started ≤ p.started + m = h.2 in
    let c0 : r.given ≡ q.given + more = c.0 in let c1 : r.started ≡ q.started + links = c.1 in (omega arith, omega arith, omega arith)

rises_weaker : (p q : Option Numbers) (f g l k m n : ℕ) → Rises p q f l m → g ≤ f → k ≤ l → m ≤ n → Rises p q g k n
rises_weaker None None f g l k m n h a b d = tt
rises_weaker None (Some q) f g l k m n h a b d = absurd h
rises_weaker (Some p) None f g l k m n h a b d = absurd h
rises_weaker (Some p) (Some q) f g l k m n h a b d =
    let h0 : p.given + f ≤ q.given = h.0 in let h1 : p.started + l ≤ q.started = h.1 in let h2 : q.started ≤ p.started + m = h.2 in (omega arith, omega arith, omega arith)

rises_not : (p : Option Numbers) (a : ℕ) → a ≡ 0 → Rises p p a a a
rises_not None a is = tt
rises_not (Some p) a is = (omega arith, omega arith, omega arith)

alike_on : (q r : Option Numbers) (more links : ℕ) → Counts q r more links → (t : Option Talk) → TellsAlike q t → TellsAlike r t
alike_on None None more links c t h = h
alike_on None (Some r) more links c t h = absurd c
alike_on (Some q) None more links c t h = absurd c
alike_on (Some q) (Some r) more links c None h = h
alike_on (Some q) (Some r) more links c (Some t) h = h

alike_all : (q r : Option Numbers) (more links : ℕ) → Counts q r more links → (ds : List DriverParts) → AllByRecursion (λ (d : DriverParts). TellsAlike q d.told) ds →
    AllByRecursion (λ (d : DriverParts). TellsAlike r d.told) ds
alike_all q r more links c [] alike = tt
alike_all q r more links c (d ∷ ds) alike = (alike_on q r more links c d.told alike.0, alike_all q r more links c ds alike.1)

alike_passed : (q : Option Numbers) (s t : Option Talk) (x : Talk) → Passes s t x → TellsAlike q s → TellsAlike q t
alike_passed q None None x p h = h
alike_passed q None (Some t) x p h = absurd p
alike_passed q (Some s) None x p h = absurd p
alike_passed None (Some s) (Some t) x p h = absurd h
alike_passed (Some q) (Some s) (Some t) x p h = tt

-- an ended link gave as many whole frames as there are receipts, or more
ended : (q r : Option Numbers) (t : Option Talk) (n : ℕ) → TellsAlike q t → GaveFrames t n → CountsEnded q r t → (more : ℕ) × (n ≤ more) × Counts q r more 0
ended None None None n alike gave c = (n, omega arith, tt)
ended None (Some r) None n alike gave c = absurd c
ended None r (Some t) n alike gave c = absurd alike
ended (Some q) r None n alike gave c = absurd alike
ended (Some q) r (Some t) n alike gave (more, frames, counts) = (more, gave more frames, counts)

rose_still : (a b c : ℕ) → c ≡ b → Rose a b → Rose a c
rose_still a b c is h = subst (λ n. Rose a n) (sym is) h

failed_still : (n a b c : ℕ) → c ≡ b → RoseBy n a b → RoseBy n a c
failed_still n a b c is h = subst (λ k. RoseBy n a k) (sym is) h

failed_once_more : (n a b c : ℕ) → RoseOnce b c → RoseBy n a b → RoseBy (n + 1) a c
failed_once_more n a b c once (inl is) = elim (cases_lt b (2 ^ 64 - 1)) [ inl less ↦ inl (omega arith) | inr more ↦ inr (omega arith, omega arith) ]
failed_once_more n a b c once (inr h) = let is : b ≡ 2 ^ 64 - 1 = h.1 in let far : 2 ^ 64 - 1 ≤ a + n = h.0 in inr (omega arith, omega arith)

-- ---- steps

-- nothing was done yet
pub account_new : (a : Standing) → IsAccountWith a a [] 0 [] 0 0
account_new a = record {
  links = omega arith;
  never_falls = omega arith;
  start = λ l. absurd (omega arith);
  failed = inl (omega arith);
  alike = tt;
  rises = rises_not a.told 0 refl;
}

pub account_begins : (a : Standing) (c : CrewParts) (workers room : ℕ) → c ≡ record { drivers = []; receipts = []; left = []; workers = workers; room = room } → IsAccount a a c
account_begins a c workers room is = subst (λ (k : CrewParts). IsAccount a a k) (sym is) (account_new a)

-- a worker that has no receipts adds none
pub account_unadded : (a b : Standing) (ds : List DriverParts) (r : ℕ) (left : List (ℕ × Leaving)) → IsAccountOf a b ds r left 0 → IsAccountOf a b ds (r + 0) left 0
account_unadded a b ds r left h = subst (λ k. IsAccountOf a b ds k left 0) (let e : r ≡ r + 0 = omega arith in e) h

-- so many links run at least
pub links_run : (a b : Standing) (c : CrewParts) → IsAccount a b c → length c.drivers ≤ b.links
links_run a b c h = let l : b.links ≡ a.links + length c.drivers = h.links in omega arith

-- a link was ended
pub account_ended : (a b c : Standing) (d : DriverParts) (ds : List DriverParts) (r s : ℕ) (left : List (ℕ × Leaving)) (lost most : ℕ) → IsAccountWith a b (d ∷ ds) r left 0 most → IsKept d →
    c.links + 1 ≡ b.links → c.count ≡ b.count → CountsEnded b.told c.told d.told → lost ≡ d.losses + 1 → s ≡ r + published d → IsAccountWith a c ds s left lost most
account_ended a b c d ds r s left lost most h kept links count e is is' =
    let (more, enough, counts) = ended b.told c.told d.told d.receipts h.alike.0 kept.backed e in record {
      links = (let l : b.links ≡ a.links + length (d ∷ ds) = h.links in omega arith);
      never_falls = (let l : a.count ≤ b.count = h.never_falls in omega arith);
      start = λ l. rose_still a.count b.count c.count count (h.start l);
      failed = failed_still (left_so for_start left) a.count b.count c.count count h.failed;
      alike = alike_all b.told c.told more 0 counts ds h.alike.1;
      rises = rises_on a.told b.told c.told _ _ _ _ _ _ more 0 h.rises counts (omega arith) (omega arith) (omega arith);
    }

-- a link was started for a worker with a past
pub account_started : (a b c : Standing) (d : DriverParts) (ds : List DriverParts) (r s : ℕ) (left : List (ℕ × Leaving)) (lost most more : ℕ) → IsAccountWith a b ds s left lost most →
    c.links ≡ b.links + 1 → c.count ≡ b.count → Counts b.told c.told 0 1 → TellsAlike c.told d.told → d.losses ≡ lost → s ≡ r + d.earlier → more ≡ most + 1 →
    IsAccountWith a c (ds ++ d ∷ []) r left 0 more
account_started a b c d ds r s left lost most more h links count counts alike is is' is'' =
    let one : length (ds ++ d ∷ []) ≡ length ds + 1 = length_push ds d in
    let former : total of_former (ds ++ d ∷ []) ≡ total of_former ds + d.earlier = total_behind of_former ds d in
    let all : total links_of (ds ++ d ∷ []) ≡ total links_of ds + suc d.losses = total_behind links_of ds d in record {
      links = (let l : b.links ≡ a.links + length ds = h.links in omega arith);
      never_falls = (let l : a.count ≤ b.count = h.never_falls in omega arith);
      start = λ l. rose_still a.count b.count c.count count (h.start l);
      failed = failed_still (left_so for_start left) a.count b.count c.count count h.failed;
      alike = all_push (λ (x : DriverParts). TellsAlike c.told x.told) ds d
          (alike_all b.told c.told 0 1 counts ds h.alike) alike;
      rises = rises_on a.told b.told c.told _ _ _ _ _ _ 0 1 h.rises counts (omega arith) (omega arith) (omega arith);
    }

-- no link could be started, and its worker was left
account_unstarted : (a b c : Standing) (ds : List DriverParts) (r : ℕ) (left : List (ℕ × Leaving)) (lost most more n : ℕ) → IsAccountWith a b ds r left lost most → c.links ≡ b.links → b.count ≤ c.count →
    RoseOnce b.count c.count → Counts b.told c.told 0 0 → most ≤ more → IsAccountWith a c ds r (left ++ (n, Start) ∷ []) 0 more
account_unstarted a b c ds r left lost most more n h links grows once counts up =
    let x : ℕ × Leaving = (n, Start) in
    let starts : left_so for_start (left ++ x ∷ []) ≡ left_so for_start left + 1 = total_behind (λ (y : ℕ × Leaving). for_start y.1) left x in
    let losses : left_so for_losses (left ++ x ∷ []) ≡ left_so for_losses left + 0 = total_behind (λ (y : ℕ × Leaving). for_losses y.1) left x in record {
      links = (let l : b.links ≡ a.links + length ds = h.links in omega arith);
      never_falls = (let l : a.count ≤ b.count = h.never_falls in omega arith);
      start = λ l. since h.never_falls (rose_once b.count c.count once);
      failed = subst (λ k. RoseBy k a.count c.count) (sym starts) (failed_once_more (left_so for_start left) a.count b.count c.count once h.failed);
      alike = alike_all b.told c.told 0 0 counts ds h.alike;
      rises = rises_on a.told b.told c.told _ _ _ _ _ _ 0 0 h.rises counts (omega arith) (omega arith) (omega arith);
    }
  where
    since : a.count ≤ b.count → Rose b.count c.count → Rose a.count c.count
    since l (inl m) = inl (omega arith)
    since l (inr e) = inr e

some_of : (x y : ℕ) → 0 < x + y → (0 < x) ⊎ (0 < y)
some_of zero y l = inr (omega arith)
some_of (suc x) y l = inl (omega arith)

-- a worker was left
pub account_left : (a b : Standing) (ds : List DriverParts) (r : ℕ) (left : List (ℕ × Leaving)) (lost most more n : ℕ) (why : Leaving) → IsAccountWith a b ds r left lost most →
    (0 < for_start why → Rose a.count b.count) → RoseBy (left_so for_start left + for_start why) a.count b.count → 4 * for_losses why ≤ lost → most ≤ more → IsAccountWith a b ds r (left ++ (n, why) ∷ []) 0 more
account_left a b ds r left lost most more n why h rose failed four up =
    let x : ℕ × Leaving = (n, why) in
    let starts : left_so for_start (left ++ x ∷ []) ≡ left_so for_start left + for_start why = total_behind (λ (y : ℕ × Leaving). for_start y.1) left x in
    let losses : left_so for_losses (left ++ x ∷ []) ≡ left_so for_losses left + for_losses why = total_behind (λ (y : ℕ × Leaving). for_losses y.1) left x in record {
      links = h.links;
      never_falls = h.never_falls;
      start = λ l. by (some_of (left_so for_start left) (for_start why) (subst (λ k. 0 < k) starts l));
      failed = subst (λ k. RoseBy k a.count b.count) (sym starts) failed;
      alike = h.alike;
      rises = rises_weaker a.told b.told _ _ _ _ _ _ h.rises (omega arith) (omega arith) up;
    }
  where
    by : (0 < left_so for_start left) ⊎ (0 < for_start why) → Rose a.count b.count
    by (inl l) = h.start l
    by (inr l) = rose l

-- a driver that goes on as it is stands after the others
pub account_turned : (a b : Standing) (d : DriverParts) (ds : List DriverParts) (r : ℕ) (left : List (ℕ × Leaving)) (most : ℕ) → IsAccountWith a b (d ∷ ds) r left 0 most → IsAccountWith a b (ds ++ d ∷ []) r left 0 most
account_turned a b d ds r left most h =
    let one : length (ds ++ d ∷ []) ≡ length ds + 1 = length_push ds d in
    let former : total of_former (ds ++ d ∷ []) ≡ total of_former ds + d.earlier = total_behind of_former ds d in
    let all : total links_of (ds ++ d ∷ []) ≡ total links_of ds + suc d.losses = total_behind links_of ds d in record {
      links = (let l : b.links ≡ a.links + length (d ∷ ds) = h.links in omega arith);
      never_falls = h.never_falls;
      start = h.start;
      failed = h.failed;
      alike = all_push (λ (x : DriverParts). TellsAlike b.told x.told) ds d h.alike.1 h.alike.0;
      rises = rises_weaker a.told b.told _ _ _ _ _ _ h.rises (omega arith) (omega arith) (omega arith);
    }

-- ---- what the calls make of the account

-- with lists that are equal to these
account_of_equals : (a b : Standing) (ds ds' : List DriverParts) (rs rs' : List ℕ) (left left' : List (ℕ × Leaving)) (lost : ℕ) → ds' ≡ ds → in_all rs' ≡ in_all rs → left' ≡ left →
    IsAccountOf a b ds (in_all rs) left lost → IsAccountOf a b ds' (in_all rs') left' lost
account_of_equals a b ds ds' rs rs' left left' lost is is' is'' h =
    subst (λ l. IsAccountOf a b l (in_all rs') left' lost) (sym is)
    (subst (λ r. IsAccountOf a b ds r left' lost) (sym is') (subst (λ l. IsAccountOf a b ds (in_all rs) l lost) (sym is'') h))

-- a worker with a past was hired
pub hired : (b c : Standing) (d : DriverParts) (ds ds' : List DriverParts) (rs rs' : List ℕ) (left left' : List (ℕ × Leaving)) (earlier losses : ℕ) →
    ds' ≡ ds ++ d ∷ [] → rs' ≡ rs → left' ≡ left → d.losses ≡ losses → d.earlier ≡ earlier → c.links ≡ b.links + 1 → c.count ≡ b.count → Counts b.told c.told 0 1 → TellsAlike c.told d.told →
    (a : Standing) → IsAccountOf a b ds (in_all rs + earlier) left losses → IsAccountOf a c ds' (in_all rs') left' 0
hired b c d ds ds' rs rs' left left' earlier losses is is' is'' l e links count counts alike a h =
    let all : total links_of (ds ++ d ∷ []) ≡ total links_of ds + suc d.losses = total_behind links_of ds d in
    account_of_equals a c (ds ++ d ∷ []) ds' rs rs' left left' 0 is (ap in_all is') is''
    (account_started a b c d ds (in_all rs) (in_all rs + earlier) left losses _ _ h links count counts alike l (omega arith) (omega arith))

-- it wasn't, since no link could be started
pub not_hired : (b c : Standing) (ds ds' : List DriverParts) (rs rs' : List ℕ) (left left' : List (ℕ × Leaving)) (earlier losses n : ℕ) →
    ds' ≡ ds → in_all rs' ≡ in_all rs + earlier → left' ≡ left ++ (n, Start) ∷ [] → losses < 4 → c.links ≡ b.links → b.count ≤ c.count → RoseOnce b.count c.count → Counts b.told c.told 0 0 →
    (a : Standing) → IsAccountOf a b ds (in_all rs + earlier) left losses → IsAccountOf a c ds' (in_all rs') left' 0
not_hired b c ds ds' rs rs' left left' earlier losses n is is' is'' few links grows once counts a h =
    let x : ℕ × Leaving = (n, Start) in
    let one : length (left ++ x ∷ []) ≡ length left + 1 = length_push left x in
    subst (λ l. IsAccountOf a c l (in_all rs') left' 0) (sym is)
    (subst (λ r. IsAccountOf a c ds r left' 0) (sym is')
    (subst (λ l. IsAccountOf a c ds (in_all rs + earlier) l 0) (sym is'')
    (account_unstarted a b c ds (in_all rs + earlier) left losses _ (total links_of ds + 4 * length (left ++ x ∷ []) + 0) n h links grows once counts (omega arith))))

-- a worker with a past was left, for another cause
pub left_otherwise : (b : Standing) (ds ds' : List DriverParts) (rs rs' : List ℕ) (left left' : List (ℕ × Leaving)) (earlier losses n : ℕ) (why : Leaving) →
    ds' ≡ ds → in_all rs' ≡ in_all rs + earlier → left' ≡ left ++ (n, why) ∷ [] → for_start why ≡ 0 → 4 * for_losses why ≤ losses → losses ≤ 4 →
    (a : Standing) → IsAccountOf a b ds (in_all rs + earlier) left losses → IsAccountOf a b ds' (in_all rs') left' 0
left_otherwise b ds ds' rs rs' left left' earlier losses n why is is' is'' none four few a h =
    let x : ℕ × Leaving = (n, why) in
    let one : length (left ++ x ∷ []) ≡ length left + 1 = length_push left x in
    let same : left_so for_start left ≡ left_so for_start left + for_start why = omega arith in
    subst (λ l. IsAccountOf a b l (in_all rs') left' 0) (sym is)
    (subst (λ r. IsAccountOf a b ds r left' 0) (sym is')
    (subst (λ l. IsAccountOf a b ds (in_all rs + earlier) l 0) (sym is'')
    (account_left a b ds (in_all rs + earlier) left losses _ (total links_of ds + 4 * length (left ++ x ∷ []) + 0) n why h (λ l. absurd (omega arith))
    (subst (λ k. RoseBy k a.count b.count) same h.failed) four (omega arith))))

-- the link of a driver was ended, and its worker has none now
pub retired : (b c : Standing) (d : DriverParts) (ds : List DriverParts) (rs : List ℕ) (left : List (ℕ × Leaving)) (earlier losses : ℕ) → IsKept d →
    c.links + 1 ≡ b.links → c.count ≡ b.count → CountsEnded b.told c.told d.told → losses ≡ d.losses + 1 → earlier ≡ published d →
    (a : Standing) → IsAccountOf a b (d ∷ ds) (in_all rs) left 0 → IsAccountOf a c ds (in_all rs + earlier) left losses
retired b c d ds rs left earlier losses kept links count ends is is' a h =
    let same : total links_of (d ∷ ds) + 4 * length left + 0 ≡ total links_of ds + 4 * length left + losses = omega arith in
    subst (λ m. IsAccountWith a c ds (in_all rs + earlier) left losses m) same
    (account_ended a b c d ds (in_all rs) (in_all rs + earlier) left losses _ h kept links count ends is (omega arith))

-- and it isn't counted any more
pub dismissed : (b c : Standing) (d : DriverParts) (ds ds' : List DriverParts) (rs rs' : List ℕ) (left left' : List (ℕ × Leaving)) → IsKept d →
    c.links + 1 ≡ b.links → c.count ≡ b.count → CountsEnded b.told c.told d.told → ds' ≡ ds → in_all rs' ≡ in_all rs + published d → left' ≡ left →
    (a : Standing) (most : ℕ) → IsAccountWith a b (d ∷ ds) (in_all rs) left 0 most → IsAccountWith a c ds' (in_all rs') left' 0 most
dismissed b c d ds ds' rs rs' left left' kept links count ends is is' is'' a most h =
    subst (λ l. IsAccountWith a c l (in_all rs') left' 0 most) (sym is)
    (subst (λ r. IsAccountWith a c ds r left' 0 most) (sym is')
    (subst (λ l. IsAccountWith a c ds (in_all rs + published d) l 0 most) (sym is'')
    (lost_less (account_ended a b c d ds (in_all rs) (in_all rs + published d) left (d.losses + 1) most h kept links count ends refl refl))))
  where
    lost_less : IsAccountWith a c ds (in_all rs + published d) left (d.losses + 1) most → IsAccountWith a c ds (in_all rs + published d) left 0 most
    lost_less k = record {
      links = k.links;
      never_falls = k.never_falls;
      start = k.start;
      failed = k.failed;
      alike = k.alike;
      rises = rises_weaker a.told c.told _ _ _ _ _ _ k.rises (omega arith) (omega arith) (omega arith);
    }

-- a driver goes on
pub joined_last : (b : Standing) (d : DriverParts) (ds ds' : List DriverParts) (rs rs' : List ℕ) (left left' : List (ℕ × Leaving)) →
    ds' ≡ ds ++ d ∷ [] → rs' ≡ rs → left' ≡ left → (a : Standing) → IsAccountOf a b (d ∷ ds) (in_all rs) left 0 → IsAccountOf a b ds' (in_all rs') left' 0
joined_last b d ds ds' rs rs' left left' is is' is'' a h =
    let all : total links_of (ds ++ d ∷ []) ≡ total links_of ds + suc d.losses = total_behind links_of ds d in
    let same : total links_of (d ∷ ds) + 4 * length left + 0 ≡ total links_of (ds ++ d ∷ []) + 4 * length left + 0 = omega arith in
    account_of_equals a b (ds ++ d ∷ []) ds' rs rs' left left' 0 is (ap in_all is') is''
    (subst (λ m. IsAccountWith a b (ds ++ d ∷ []) (in_all rs) left 0 m) same (account_turned a b d ds (in_all rs) left _ h))

-- ---- what receipts count

-- those of a driver that stands last now
pub published_last : (d : DriverParts) (ds ds' : List DriverParts) (rs rs' : List ℕ) (n : ℕ) → ds' ≡ ds ++ d ∷ [] → rs' ≡ rs → published d ≡ n →
    total published ds' + in_all rs' ≡ total published ds + in_all rs + n
published_last d ds ds' rs rs' n is is' is'' =
    let last : total published (ds ++ d ∷ []) ≡ total published ds + published d = total_behind published ds d in
    let all : total published ds' ≡ total published (ds ++ d ∷ []) = ap (total published) is in
    let same : in_all rs' ≡ in_all rs = ap in_all is' in omega arith

-- those of a worker that doesn't go on
pub published_left : (ds ds' : List DriverParts) (rs rs' : List ℕ) (n : ℕ) → ds' ≡ ds → in_all rs' ≡ in_all rs + n →
    total published ds' + in_all rs' ≡ total published ds + in_all rs + n
published_left ds ds' rs rs' n is is' = let all : total published ds' ≡ total published ds = ap (total published) is in omega arith

-- with the receipts of one worker more
pub in_all_more : (rs rs' rs'' : List ℕ) (o : Option ℕ) (n : ℕ) → rs' ≡ rs → rs'' ≡ rs' ++ n ∷ [] → o ≡ Some n → in_all rs'' ≡ in_all rs + counted o
in_all_more rs rs' rs'' o n is is' some =
    let last : in_all (rs' ++ n ∷ []) ≡ in_all rs' + n = total_behind (λ (x : ℕ). x) rs' n in
    let all : in_all rs'' ≡ in_all (rs' ++ n ∷ []) = ap in_all is' in
    let same : in_all rs' ≡ in_all rs = ap in_all is in
    let count : counted o ≡ n = ap counted some in omega arith

-- with those of one that has none
pub in_all_same : (rs rs' : List ℕ) (o : Option ℕ) → rs' ≡ rs → o ≡ None → in_all rs' ≡ in_all rs + counted o
in_all_same rs rs' o is none =
    let same : in_all rs' ≡ in_all rs = ap in_all is in
    let count : counted o ≡ 0 = ap counted none in omega arith

-- ---- a round

-- each pair, one after another
abbrev AreDrivenOn : List DriverParts → List DriverParts → Type 0
AreDrivenOn [] [] = Unit {0}
AreDrivenOn [] (y ∷ ys) = ⊥
AreDrivenOn (x ∷ xs) [] = ⊥
AreDrivenOn (x ∷ xs) (y ∷ ys) = IsDriven x y × AreDrivenOn xs ys

driven_on : (xs ys : List DriverParts) → length ys ≡ length xs → ((n : ℕ) (d : DriverParts) → n < length xs → IsDriven (slice_index_or xs n d) (slice_index_or ys n d)) → AreDrivenOn xs ys
driven_on [] [] many each = tt
driven_on [] (y ∷ ys) many each = absurd (omega arith)
driven_on (x ∷ xs) [] many each = absurd (omega arith)
driven_on (x ∷ xs) (y ∷ ys) many each = (each 0 x (omega arith), driven_on xs ys (omega arith) (λ n d l. each (suc n) d (omega arith)))

former_on : (xs ys : List DriverParts) → AreDrivenOn xs ys → total of_former ys ≡ total of_former xs
former_on [] [] h = refl
former_on [] (y ∷ ys) h = absurd h
former_on (x ∷ xs) [] h = absurd h
former_on (x ∷ xs) (y ∷ ys) h = let e : y.earlier ≡ x.earlier = h.0.later.earlier in let s : total of_former ys ≡ total of_former xs = former_on xs ys h.1 in omega arith

links_on : (xs ys : List DriverParts) → AreDrivenOn xs ys → total links_of ys ≡ total links_of xs
links_on [] [] h = refl
links_on [] (y ∷ ys) h = absurd h
links_on (x ∷ xs) [] h = absurd h
links_on (x ∷ xs) (y ∷ ys) h = let e : y.losses ≡ x.losses = h.0.later.losses in let s : total links_of ys ≡ total links_of xs = links_on xs ys h.1 in omega arith

alike_driven : (q : Option Numbers) (xs ys : List DriverParts) → AreDrivenOn xs ys → AllByRecursion (λ (d : DriverParts). TellsAlike q d.told) xs → AllByRecursion (λ (d : DriverParts). TellsAlike q d.told) ys
alike_driven q [] [] h alike = tt
alike_driven q [] (y ∷ ys) h alike = absurd h
alike_driven q (x ∷ xs) [] h alike = absurd h
alike_driven q (x ∷ xs) (y ∷ ys) h alike = (alike_passed q x.told y.told h.0.later.passed h.0.later.passes alike.0, alike_driven q xs ys h.1 alike.1)

pub account_driven : (a b : Standing) (xs ys : List DriverParts) (r : ℕ) (left : List (ℕ × Leaving)) (most more : ℕ) → AreDriven xs ys → IsAccountWith a b xs r left 0 most →
    most ≡ total links_of xs + 4 * length left + 0 → more ≡ total links_of ys + 4 * length left + 0 → IsAccountWith a b ys r left 0 more
account_driven a b xs ys r left most more driven h is is' =
    let on : AreDrivenOn xs ys = driven_on xs ys driven.many driven.each in
    let former : total of_former ys ≡ total of_former xs = former_on xs ys on in
    let all : total links_of ys ≡ total links_of xs = links_on xs ys on in
    let many : length ys ≡ length xs = driven.many in record {
      links = (let l : b.links ≡ a.links + length xs = h.links in omega arith);
      never_falls = h.never_falls;
      start = h.start;
      failed = h.failed;
      alike = alike_driven b.told xs ys on h.alike;
      rises = rises_weaker a.told b.told _ _ _ _ _ _ h.rises (omega arith) (omega arith) (omega arith);
    }

-- what was lent to a round stands where it stood
pub written_back : (olds news : List DriverParts) (n : ℕ) → n ≡ length olds → length news ≡ length olds → take n (news ++ drop (length news) olds) ≡ news
written_back olds news n is many = ap (λ k. take k (news ++ drop (length news) olds)) (is ∙ sym many) ∙ take-append_seam news (drop (length news) olds)

pub crew_driven : (a b : Standing) (xs ys zs : List DriverParts) (rs rs' : List ℕ) (left left' : List (ℕ × Leaving)) → AreDriven xs ys → zs ≡ ys → rs' ≡ rs → left' ≡ left →
    IsAccountOf a b xs (in_all rs) left 0 → IsAccountOf a b zs (in_all rs') left' 0
crew_driven a b xs ys zs rs rs' left left' driven is is' is'' h =
    account_of_equals a b ys zs rs rs' left left' 0 is (ap in_all is') is'' (account_driven a b xs ys (in_all rs) left _ _ driven h refl refl)

-- ---- the end

four_each : (ds : List DriverParts) → HaveLostFew ds → total links_of ds ≤ 4 * length ds
four_each [] few = omega arith
four_each (d ∷ ds) few = let l : d.losses < 4 = few.0 in let m : total links_of ds ≤ 4 * length ds = four_each ds few.1 in omega arith

pub most_links : (workers : ℕ) (ds : List DriverParts) (left : List (ℕ × Leaving)) → HaveLostFew ds → length ds + length left ≤ workers →
    total links_of ds + 4 * length left + 0 ≤ 4 * workers
most_links workers ds left few many = let l : total links_of ds ≤ 4 * length ds = four_each ds few in omega arith

pub is_end : (workers : ℕ) (a b : Standing) (receipts : List ℕ) (left : List (ℕ × Leaving)) (most : ℕ) → IsAccountWith a b [] (in_all receipts) left 0 most → most ≤ 4 * workers → length receipts ≤ workers → length left ≤ workers →
    IsEnd workers a b receipts left
is_end workers a b receipts left most h up few_receipts few_left = record {
  links = (let l : b.links ≡ a.links + length {A = DriverParts} [] = h.links in omega arith);
  start = h.start;
  failed = h.failed;
  rises = rises_weaker a.told b.told _ _ _ _ _ _ h.rises (omega arith) (omega arith) up;
  few_receipts = few_receipts;
  few_left = few_left;
}

-- of a crew whose drivers are all dismissed
pub crew_ends : (a b : Standing) (c : CrewParts) (ds : List DriverParts) (rs receipts : List ℕ) (ls left : List (ℕ × Leaving)) → HaveLostFew c.drivers → length c.drivers + length c.left ≤ c.workers → ds ≡ [] →
    receipts ≡ rs → left ≡ ls → IsAccountWith a b ds (in_all rs) ls 0 (total links_of c.drivers + 4 * length c.left + 0) → length receipts ≤ c.workers → length left ≤ c.workers → IsEnd c.workers a b receipts left
crew_ends a b c ds rs receipts ls left few many none is is' h few_receipts few_left =
    let most : ℕ = total links_of c.drivers + 4 * length c.left + 0 in
    is_end c.workers a b receipts left most
    (subst (λ l. IsAccountWith a b l (in_all receipts) left 0 most) none
    (subst (λ l. IsAccountWith a b ds (in_all l) left 0 most) (sym is)
    (subst (λ l. IsAccountWith a b ds (in_all rs) l 0 most) (sym is') h)))
    (most_links c.workers c.drivers c.left few many) few_receipts few_left
