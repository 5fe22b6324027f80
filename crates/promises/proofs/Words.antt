-- The small words (`Words` of the builds, the search and the runs).
use Rattle.builds.proofs.Words.{satisfied, written, one_to, counting, adding, writing}
use Rattle.builds.proofs.Alternatives.{alternative_iff}
use Rattle.search.proofs.Words.{bit, working, numbered}
use Rattle.runs.proofs.Words.{own, clinic, seated, own_calls, asked}
use Rattle.promises.specs.Words.{Words}

pub words : Words
words = record {
  satisfied = satisfied;
  alternative = alternative_iff;
  numbered = numbered;
  written = written;
  own = own;
  clinic = clinic;
  seated = seated;
  bit = bit;
  working = working;
  own_calls = own_calls;
  asked = asked;
  one_to = one_to;
  counting = counting;
  adding = adding;
  writing = λ bytes new n. writing bytes n new;
}
