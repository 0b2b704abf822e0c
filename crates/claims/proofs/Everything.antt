-- Every claim holds.
use Rattle.meter.proofs.Runs.{first-ticks, decay, never-above, stays-in-range, bytes-tell}
use Rattle.blocks.proofs.OneByte.{one-byte-named}
use Rattle.traced.proofs.Back.{entry-back, bytes-again, decoded-again}
use Rattle.trace.proofs.Apart.{one_block}
use Rattle.trace.proofs.Reading.{told-in-steps}
use Rattle.trace.proofs.Filling.{trace-handed-out}
use Rattle.trace.proofs.RoundTrip.{read_back}
use Rattle.refused.proofs.NoneBad.{none-bad}
use Rattle.answered.proofs.Entries.{entries-well, entries-tell}
use Rattle.replay.proofs.Steps.{replayed-in-steps}
use Rattle.replay.proofs.Exactly.{replayed-in-order, named-exactly}
use Rattle.replay.proofs.Own.{none-of-its-own}
use Rattle.trace_calls.proofs.TracedAnswers.{answers-traced}
use Rattle.faults.proofs.Recording.{slot_counts}
use Rattle.faults.proofs.Totals.{one-length, total}
use Rattle.dma.proofs.Access.{locality}
use Rattle.dma.proofs.Nine.{at-most-nine, none-untaken}
use Rattle.dma.proofs.Places.{always-an-entry}
use Rattle.dma.proofs.Reached.{granted-by-own-walk}
use Rattle.dma.proofs.NoInterrupt.{no-interrupt-granted, whole-frame-tested}
use Rattle.dma.proofs.Rights.{rights-on, rights-off, unshared}
use Rattle.dma.proofs.Unfetched.{access-means-unfetched}
use Rattle.translation.proofs.Agree.{engines-agree}
use Rattle.translation.proofs.Local.{translation-locality, translation-access-means-unfetched, translation-at-most-nine, translation-none-untaken, translation-reads-words, translation-always-an-entry}
use Rattle.translation.proofs.Types.{only-type-1}
use Rattle.cache.proofs.AsDefined.{as-defined, equal-calls}
use Rattle.cache.proofs.History.{when-cached, domain-as-cached}
use Rattle.cache.proofs.Holding.{only-pages, at-most-64, held64, pushed-out, by-domain, newest, must-answer, just-those}
use Rattle.rights.proofs.More.{scalable-more-memory}
use Rattle.rights.proofs.Rights.{scalable-rights-on, scalable-rights-off}
use Rattle.scalable.proofs.Fifty.{at-most-fifty}
use Rattle.claims.proofs.ScalableClaims.{scalable-access-means-unfetched, scalable-stays-inside, scalable-no-interrupt-granted, scalable-none-untaken, scalable-always-an-entry}
use Rattle.claims.proofs.ScalableLent.{scalable-isolation}
use Rattle.scalable_cases.proofs.Instances.{scalable-premises-met}
use Rattle.scalable_cases.proofs.Rows.{scalable-rows}
use Rattle.scalable.proofs.Isolation.{scalable-locality}
use Rattle.scalable.proofs.Written.{scalable-leaves-all, scalable-sets-exactly}
use Rattle.cache.proofs.PageWords.{page-words}
use Rattle.cache.proofs.Runs.{equal, as-cached, as-now}
use Rattle.agreement.proofs.Agreement.{windows-tell, listed-where-walked, spans-agree, others-lack, spans-in-order}
use Rattle.built.proofs.Again.{builds-on-empty, builds-again}
use Rattle.built.proofs.Answers.{built-answers}
use Rattle.built.proofs.Inside.{builds-inside, refusal-leaves}
use Rattle.interrupts.proofs.Exact.{sets-exactly, leaves_all, stays-inside}
use Rattle.interrupts.proofs.Isolation.{isolated, same_bits}
use Rattle.interrupts.proofs.Named.{index-bound, entry-of-index, no_wrap, at-most-ten, none-before-table}
use Rattle.interrupts.proofs.Notifications.{notification-exactly}
use Rattle.interrupts.proofs.Unfetched.{interrupt-access-means-unfetched}
use Rattle.interrupts.proofs.RaisedBy.{remapped-by-entry, posted-by-entry, one-source, exact-source}
use Rattle.takes.proofs.Conserved.{conserved, none-invented}
use Rattle.takes.proofs.HandedOut.{fewer-until-handed-out, handed-out-within, handed-out-within-256}
use Rattle.takes.proofs.Orders.{either_order}
use Rattle.takes.proofs.Takes.{clears-exactly, takes-stay-inside, hands-highest, none-stands}
use Rattle.unit.proofs.Demand3.{isolation, more-memory, flat-images}
use Rattle.cases.proofs.Cases.{twelve-cases}
use Rattle.cases.proofs.Instances.{premises-met}
use Rattle.cases.proofs.InterruptFrames.{interrupt-frames}
use Rattle.cases.proofs.PostsThroughWindows.{posts-through-windows}
use Rattle.cases.proofs.Takes.{takes-met}
use Rattle.cases.proofs.Translations.{translation-cases}
use Rattle.claims.specs.Everything.{Everything}
use Rattle.claims.proofs.FirstNamed.{first-named}
use Rattle.claims.proofs.OneAnswer.{one-memory-answer, one-translation-answer, one-interrupt-answer, one-take-answer, one-recorder-answer, one-reason}
use Rattle.claims.proofs.OneScalable.{one-scalable-answer}
use Rattle.claims.proofs.OneWindow.{whole-in-one-window}

pub everything : Everything
everything =
    record {
      leaves_all = leaves_all;
      none-bad = none-bad;
      first-named = first-named;
      one-memory-answer = one-memory-answer;
      one-interrupt-answer = one-interrupt-answer;
      one-take-answer = one-take-answer;
      one-recorder-answer = one-recorder-answer;
      one-reason = one-reason;
      remapped-by-entry = remapped-by-entry;
      posted-by-entry = posted-by-entry;
      one-source = one-source;
      exact-source = exact-source;
      sets-exactly = sets-exactly;
      notification-exactly = notification-exactly;
      stays-inside = stays-inside;
      index-bound = index-bound;
      entry-of-index = entry-of-index;
      no_wrap = no_wrap;
      always-an-entry = always-an-entry;
      slot_counts = slot_counts;
      one-length = one-length;
      total = total;
      twelve-cases = twelve-cases;
      whole-in-one-window = whole-in-one-window;
      no-interrupt-granted = no-interrupt-granted;
      whole-frame-tested = whole-frame-tested;
      interrupt-frames = interrupt-frames;
      isolation = isolation;
      locality = locality;
      access-means-unfetched = access-means-unfetched;
      isolated = isolated;
      same_bits = same_bits;
      interrupt-access-means-unfetched = interrupt-access-means-unfetched;
      rights-on = rights-on;
      rights-off = rights-off;
      unshared = unshared;
      more-memory = more-memory;
      flat-images = flat-images;
      granted-by-own-walk = granted-by-own-walk;
      premises-met = premises-met;
      at-most-nine = at-most-nine;
      none-untaken = none-untaken;
      at-most-ten = at-most-ten;
      none-before-table = none-before-table;
      one-translation-answer = one-translation-answer;
      translation-locality = translation-locality;
      translation-access-means-unfetched = translation-access-means-unfetched;
      translation-at-most-nine = translation-at-most-nine;
      translation-none-untaken = translation-none-untaken;
      translation-reads-words = translation-reads-words;
      translation-always-an-entry = translation-always-an-entry;
      engines-agree = engines-agree;
      only-type-1 = only-type-1;
      translation-cases = translation-cases;
      equal = equal;
      equal-calls = equal-calls;
      as-defined = as-defined;
      as-cached = as-cached;
      when-cached = when-cached;
      as-now = as-now;
      only-pages = only-pages;
      at-most-64 = at-most-64;
      held64 = held64;
      pushed-out = pushed-out;
      by-domain = by-domain;
      domain-as-cached = domain-as-cached;
      newest = newest;
      must-answer = must-answer;
      just-those = just-those;
      page-words = page-words;
      windows-tell = windows-tell;
      listed-where-walked = listed-where-walked;
      spans-agree = spans-agree;
      others-lack = others-lack;
      spans-in-order = spans-in-order;
      builds-inside = builds-inside;
      refusal-leaves = refusal-leaves;
      built-answers = built-answers;
      builds-on-empty = builds-on-empty;
      builds-again = builds-again;
      first-ticks = first-ticks;
      decay = decay;
      never-above = never-above;
      stays-in-range = stays-in-range;
      bytes-tell = bytes-tell;
      clears-exactly = clears-exactly;
      takes-stay-inside = takes-stay-inside;
      hands-highest = hands-highest;
      none-stands = none-stands;
      fewer-until-handed-out = fewer-until-handed-out;
      handed-out-within = handed-out-within;
      handed-out-within-256 = handed-out-within-256;
      conserved = conserved;
      none-invented = none-invented;
      either_order = either_order;
      takes-met = takes-met;
      posts-through-windows = posts-through-windows;
      one-byte-named = one-byte-named;
      entry-back = entry-back;
      bytes-again = bytes-again;
      decoded-again = decoded-again;
      one_block = one_block;
      told-in-steps = told-in-steps;
      trace-handed-out = trace-handed-out;
      read_back = read_back;
      entries-well = entries-well;
      entries-tell = entries-tell;
      replayed-in-steps = replayed-in-steps;
      replayed-in-order = replayed-in-order;
      named-exactly = named-exactly;
      none-of-its-own = none-of-its-own;
      answers-traced = answers-traced;
      one-scalable-answer = one-scalable-answer;
      scalable-locality = scalable-locality;
      scalable-access-means-unfetched = scalable-access-means-unfetched;
      at-most-fifty = at-most-fifty;
      scalable-none-untaken = scalable-none-untaken;
      scalable-always-an-entry = scalable-always-an-entry;
      scalable-no-interrupt-granted = scalable-no-interrupt-granted;
      scalable-sets-exactly = scalable-sets-exactly;
      scalable-leaves-all = scalable-leaves-all;
      scalable-stays-inside = scalable-stays-inside;
      scalable-more-memory = scalable-more-memory;
      scalable-rights-on = scalable-rights-on;
      scalable-rights-off = scalable-rights-off;
      scalable-isolation = scalable-isolation;
      scalable-rows = scalable-rows;
      scalable-premises-met = scalable-premises-met;
    }
