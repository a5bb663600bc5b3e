-- Calls that only read, and the first damage on a way.
use Rattle.std.proofs.Common.{◌∙◌, Option, Err, refl, ap}
use Rattle.store_api.specs.declared.answer.Mismatch.{Mismatch}
use Rattle.store_api.specs.declared.leaves.LeafAnswer.{LeafAnswer}
use Rattle.store_api.specs.declared.leaves.LeafAnswer.TheVariants as answers
use Rattle.store_api.specs.Volumes.{ShowsLeaf}
use Rattle.board.specs.Moment.{View}
use Rattle.board.specs.Steps.{Answered, Unchanged}
use Rattle.epoch.specs.Copies.{first_damage}
use Rattle.epoch.specs.Reading.{OnlyReads}
use Rattle.epoch.proofs.PastLemmas.{followed, itself, once}
use Rattle.epoch.proofs.RunLemmas.{over_read}

-- calls that only read
pub only_itself : (v : View) → OnlyReads v v
only_itself v = record {
  state = record { reads = refl; durable = refl; pending = refl; counter = refl; slack = refl };
  past = itself v;
  run = λ open_at base low high first run. run;
}

pub only_once : (old new : View) → Answered old new → Unchanged old.state new.state → OnlyReads old new
only_once old new answered same = record {
  state = same;
  past = once old new answered;
  run = λ open_at base low high first run. over_read open_at base low high first old new run answered same;
}

pub only_more : (first old new : View) → OnlyReads first old → OnlyReads old new → OnlyReads first new
only_more first old new one two = record {
  state = record {
    reads = two.state.reads ∙ one.state.reads;
    durable = two.state.durable ∙ one.state.durable;
    pending = two.state.pending ∙ one.state.pending;
    counter = two.state.counter ∙ one.state.counter;
    slack = two.state.slack ∙ one.state.slack;
  };
  past = followed first old new one.past two.past;
  run = λ open_at base low high start run. two.run open_at base low high start (one.run open_at base low high start run);
}

-- what is found first is found on the way
pub shows_first : (A B : Type 0) (e : LeafAnswer) (first rest : Option Mismatch) → ShowsLeaf {A = A} (Err e) first → ShowsLeaf {A = B} (Err e) (first_damage first rest)
shows_first A B (answers.Mismatch tags) first rest shows = ap (λ (d : Option Mismatch). first_damage d rest) shows
shows_first A B answers.Lost first rest shows = tt
shows_first A B answers.Failed first rest shows = tt
shows_first A B answers.NoMemory first rest shows = tt
