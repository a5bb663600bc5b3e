-- What the opening rule answers, by the rule of the header and by what the form refuses.
use Rattle.std.proofs.Common.{◌≡◌, ◌≢◌, ◌∙◌, ℕ, List, Option, None, Some, Result, Ok, Err, IfErr, refl, sym, ap, subst, ⊎_elim}
use Rattle.board.specs.Moment.{IsCounter, View}
use Rattle.epoch.specs.Finding.{Finds}
use Rattle.epoch.specs.Formats.{IsFormatOf, accepts}
use Rattle.epoch.specs.Forms.{Form, Root}
use Rattle.epoch.specs.Mounts.{IsAdmittedTo, IsFound, IsKeptFromOpening, IsRefusal, IsRefusedNow, IsRuledBy, RefusesBy, TakesUp}
use Rattle.epoch.specs.Mounts.{admission, admission_over, admitted_of, refusal_of, unless_refused}
use Rattle.epoch.specs.Opening.{IsRuled, found_header, header_answer, opens_as}
use Rattle.epoch.specs.declared.answer.OpenAnswer.{OpenAnswer}
use Rattle.epoch.specs.declared.answer.OpenAnswer.TheVariants.{Ahead, BadHeader, Failed, NoMemory, NoVolume, OldGarbled, OldMismatch, Rollback, TooSmall, UnknownVersion}
use Rattle.epoch.specs.declared.format.Format.{Format}
use Rattle.epoch.specs.declared.header.Header.{Header}
use Rattle.epoch.specs.declared.rule.Found.{Found}

-- what the rule says of a board that has the same size and key, and reads so
module _ (f : Form) (old mid : View) (size : mid.size ≡ old.size) (key : mid.key ≡ old.key) (image base : ℕ → List ℕ) (counter n : ℕ) (reads : image ≡ base) (count : counter ≡ n) where
  same_rule : opens_as f.known f.blocks old.size old.key base n ≡ opens_as f.known f.blocks mid.size mid.key image counter
  same_rule = rw (sym size, sym key, sym reads, sym count) refl

  pub ruled_so : (result : Result (Option Header) OpenAnswer) → IsRuledBy f mid image counter result → IsRuledBy f old base n result
  ruled_so (Ok found) ruled = (tt, ap header_answer same_rule ∙ ruled.1)
  ruled_so (Err why) ruled = (subst (λ (rule : Result (Option Found) OpenAnswer). RefusesBy rule why) (sym same_rule) ruled.0, tt)

  pub refusal_so : (why : OpenAnswer) → IsRefusal f mid image counter why → IsRefusal f old base n why
  refusal_so why refusal =
      subst (λ (rule : Result (Option Found) OpenAnswer). RefusesBy rule why) (sym same_admission) refusal
    where
      same_admission : admission f old base n ≡ admission f mid image counter
      same_admission = rw (sym size, sym key, sym reads, sym count) refl

-- what the rule of the header refuses is refused, whatever the form refuses besides
pub lifted : (f : Form) (key : List ℕ) (image : ℕ → List ℕ) (rule : Result (Option Found) OpenAnswer) (why : OpenAnswer) → RefusesBy rule why → RefusesBy (admitted_of f key image rule) why
lifted f key image rule (TooSmall m) e = ap (admitted_of f key image) e
lifted f key image rule (NoVolume m) e = ap (admitted_of f key image) e
lifted f key image rule (BadHeader slot found kept) e = ap (admitted_of f key image) e
lifted f key image rule (UnknownVersion m) e = ap (admitted_of f key image) e
lifted f key image rule (Rollback s m) e = ap (admitted_of f key image) e
lifted f key image rule (Ahead s m) e = ap (admitted_of f key image) e
lifted f key image rule (OldMismatch tags) e = ap (admitted_of f key image) e
lifted f key image rule (OldGarbled region leaf) e = ap (admitted_of f key image) e
lifted f key image rule Failed e = tt
lifted f key image rule NoMemory e = tt

-- a refusal by its equation
pub refused_by : (rule : Result (Option Found) OpenAnswer) (why : OpenAnswer) → rule ≡ Err why → RefusesBy rule why
refused_by rule (TooSmall m) e = e
refused_by rule (NoVolume m) e = e
refused_by rule (BadHeader slot found kept) e = e
refused_by rule (UnknownVersion m) e = e
refused_by rule (Rollback s m) e = e
refused_by rule (Ahead s m) e = e
refused_by rule (OldMismatch tags) e = e
refused_by rule (OldGarbled region leaf) e = e
refused_by rule Failed e = tt
refused_by rule NoMemory e = tt

-- a refusal told without the slot is the rule's
refused_as : (rule : Result (Option Found) OpenAnswer) (why : OpenAnswer) → (let refused : Result (Option Header) OpenAnswer = Err why in refused ≡ header_answer rule) → rule ≡ Err why
refused_as (Ok found) why e = absurd (cc)
refused_as (Err other) why e = cc

-- an answer that is the rule's, where no call of the board failed
module _ (f : Form) (format : Format) (serves : IsFormatOf f format) (view : View) (image : ℕ → List ℕ) (counter : ℕ) where
  format_as : opens_as (accepts format) format.blocks view.size view.key image counter ≡ opens_as f.known f.blocks view.size view.key image counter
  format_as = λ i. opens_as (sym serves.known i) (sym serves.blocks i) view.size view.key image counter

  refusal_as : (why : OpenAnswer)
      → (let refused : Result (Option Header) OpenAnswer = Err why in IsRuled refused (opens_as f.known f.blocks view.size view.key image counter))
      → RefusesBy (opens_as f.known f.blocks view.size view.key image counter) why
  refusal_as (TooSmall m) ruled = refused_as _ _ (ruled (λ w. cc))
  refusal_as (NoVolume m) ruled = refused_as _ _ (ruled (λ w. cc))
  refusal_as (BadHeader slot found kept) ruled = refused_as _ _ (ruled (λ w. cc))
  refusal_as (UnknownVersion m) ruled = refused_as _ _ (ruled (λ w. cc))
  refusal_as (Rollback s m) ruled = refused_as _ _ (ruled (λ w. cc))
  refusal_as (Ahead s m) ruled = refused_as _ _ (ruled (λ w. cc))
  refusal_as (OldMismatch tags) ruled = refused_as _ _ (ruled (λ w. cc))
  refusal_as (OldGarbled region leaf) ruled = refused_as _ _ (ruled (λ w. cc))
  refusal_as Failed ruled = tt
  refusal_as NoMemory ruled = tt

  ruled_as : (result : Result (Option Header) OpenAnswer) → IsRuled result (opens_as f.known f.blocks view.size view.key image counter) → IsRuledBy f view image counter result
  ruled_as (Ok found) ruled = (tt, sym (ruled (λ w. cc)))
  ruled_as (Err why) ruled = (refusal_as why ruled, tt)

  pub ruled_by : (result : Result (Option Header) OpenAnswer) → IsRuled result (opens_as (accepts format) format.blocks view.size view.key image counter) → IsRuledBy f view image counter result
  ruled_by result ruled = ruled_as result (subst (IsRuled result) format_as ruled)

-- a refusal is of the board as it reads then
module _ (f : Form) (old new : View) (size : new.size ≡ old.size) (key : new.key ≡ old.key) (reads : new.state.reads ≡ old.state.reads) (counter : ℕ) where
  same_now : admission f new new.state.reads counter ≡ admission f old old.state.reads counter
  same_now = rw (size, key, reads) refl

  pub now_refused : (why : OpenAnswer) → (let refused : Result (Option Header) OpenAnswer = Err why in refused ≢ Err Failed → IsCounter new.state counter)
      → IsRefusal f old old.state.reads counter why → IsRefusedNow f new why
  now_refused (TooSmall m) among e = (counter, among (λ w. cc), same_now ∙ e)
  now_refused (NoVolume m) among e = (counter, among (λ w. cc), same_now ∙ e)
  now_refused (BadHeader slot found kept) among e = (counter, among (λ w. cc), same_now ∙ e)
  now_refused (UnknownVersion m) among e = (counter, among (λ w. cc), same_now ∙ e)
  now_refused (Rollback s m) among e = (counter, among (λ w. cc), same_now ∙ e)
  now_refused (Ahead s m) among e = (counter, among (λ w. cc), same_now ∙ e)
  now_refused (OldMismatch tags) among e = (counter, among (λ w. cc), same_now ∙ e)
  now_refused (OldGarbled region leaf) among e = (counter, among (λ w. cc), same_now ∙ e)
  now_refused Failed among e = tt
  now_refused NoMemory among e = tt

-- the same of what a search answers
pub found_refused : (format : Format) (old new : View) (result : Result (Option Header) OpenAnswer) → new.size ≡ old.size → new.key ≡ old.key → new.state.reads ≡ old.state.reads
    → Finds (accepts format) format.blocks old.size old.key old.state new.state result → IfErr result (λ why. (f : Form) → IsFormatOf f format → IsRefusedNow f new why)
found_refused format old new (Ok found) size key reads finds = tt
found_refused format old new (Err why) size key reads finds = λ f serves.
    now_refused f old new size key reads finds.counter why finds.still
    (lifted f old.key old.state.reads (opens_as f.known f.blocks old.size old.key old.state.reads finds.counter) why
    (ruled_by f format serves old old.state.reads finds.counter (Err why) finds.ruled).0)

-- what only keeps a board from being opened is no refusal
pub kept_now : (f : Form) (view : View) (why : OpenAnswer) → IsKeptFromOpening why → IsRefusedNow f view why
kept_now f view why kept =
    ⊎_elim
    (λ (e : why ≡ Failed). subst (IsRefusedNow f view) (sym e) tt)
    (λ (e : why ≡ NoMemory). subst (IsRefusedNow f view) (sym e) tt)
    kept

-- where the rule of the header opens with this header, or with none, what takes it up was found
found_as : (rule : Result (Option Found) OpenAnswer) (found : Option Header) (Takes : Option Header → Type 0) → header_answer rule ≡ Ok found → Takes found
    → (one : Option Found) × (rule ≡ Ok one) × Takes (found_header one)
found_as (Ok one) found Takes answers is =
    let same : found ≡ found_header one = cc in
    (one, refl, subst Takes same is)
found_as (Err answer) found Takes answers is = absurd (cc)

pub found_by_rule : (f : Form) (view : View) (image : ℕ → List ℕ) (counter blank sequence : ℕ) (root : Root) (found : Option Header)
    → header_answer (opens_as f.known f.blocks view.size view.key image counter) ≡ Ok found → TakesUp f found blank sequence root
    → IsFound f view image counter blank sequence root
found_by_rule f view image counter blank sequence root found answers is =
    found_as (opens_as f.known f.blocks view.size view.key image counter) found (λ header. TakesUp f header blank sequence root) answers is

-- and is admitted where the form doesn't refuse the image
admitted_as : (f : Form) (key : List ℕ) (image : ℕ → List ℕ) (rule : Result (Option Found) OpenAnswer) (found : Option Header) (Takes : Option Header → Type 0)
    → header_answer rule ≡ Ok found → refusal_of f key image found ≡ None → Takes found
    → (one : Option Found) × (admitted_of f key image rule ≡ Ok one) × Takes (found_header one)
admitted_as f key image (Ok one) found Takes answers none is =
    let same : found ≡ found_header one = cc in
    let none' : refusal_of f key image (found_header one) ≡ None = ap (refusal_of f key image) (sym same) ∙ none in
    (one, ap (λ (o : Option OpenAnswer). unless_refused o one) none', subst Takes same is)
admitted_as f key image (Err answer) found Takes answers none is = absurd (cc)

pub admitted_by : (f : Form) (view : View) (image : ℕ → List ℕ) (counter : ℕ) (Takes : Option Header → Type 0) (found : Option Header)
    → header_answer (opens_as f.known f.blocks view.size view.key image counter) ≡ Ok found → refusal_of f view.key image found ≡ None → Takes found
    → IsAdmittedTo f view image counter Takes
admitted_by f view image counter Takes found answers none is =
    admitted_as f view.key image (opens_as f.known f.blocks view.size view.key image counter) found Takes answers none is

-- and refused where it does
over_as : (f : Form) (key : List ℕ) (image : ℕ → List ℕ) (rule : Result (Option Found) OpenAnswer) (found : Option Header) (why : OpenAnswer)
    → header_answer rule ≡ Ok found → refusal_of f key image found ≡ Some why → admitted_of f key image rule ≡ Err why
over_as f key image (Ok one) found why answers some =
    let same : found ≡ found_header one = cc in
    ap (λ (o : Option OpenAnswer). unless_refused o one) (ap (refusal_of f key image) (sym same) ∙ some)
over_as f key image (Err answer) found why answers some = absurd (cc)

pub refused_over : (f : Form) (view : View) (image walked : ℕ → List ℕ) (counter : ℕ) (found : Option Header) (why : OpenAnswer)
    → header_answer (opens_as f.known f.blocks view.size view.key image counter) ≡ Ok found → refusal_of f view.key walked found ≡ Some why
    → RefusesBy (admission_over f view image walked counter) why
refused_over f view image walked counter found why answers some =
    refused_by (admission_over f view image walked counter) why
    (over_as f view.key walked (opens_as f.known f.blocks view.size view.key image counter) found why answers some)
