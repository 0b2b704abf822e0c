-- Every claim that docs/PROOF.md names, as one type. Its term is `everything` in proofs/Everything.antt, so a claim whose proof is lost
-- is refused here, and tests/run-claims holds the page to this list and this list to the page. What a function promises is its contract,
-- and isn't repeated here.
use Rattle.meter.specs.Runs.{FirstTicks, Decays, NeverAbove, StaysInRange, BytesTell}
use Rattle.blocks.specs.Block.{OneByteNamed}
use Rattle.traced.specs.Entry.{EntryBack, BytesAgain}
use Rattle.traced.specs.Decoded.{DecodedAgain}
use Rattle.trace.specs.Told.{OneBlock}
use Rattle.trace.specs.Reader.{ToldInSteps}
use Rattle.trace.specs.Written.{ReadBack}
use Rattle.trace.specs.Writer.{TraceHandedOut}
use Rattle.refused.specs.FirstBad.{NoneBad}
use Rattle.answered.specs.Claims.{EntriesWell, EntriesTell}
use Rattle.replay.specs.Replayed.{ReplayedInSteps}
use Rattle.replay.specs.Claims.{ReplayedInOrder, NamedExactly, NoneOfItsOwn}
use Rattle.trace_calls.specs.Traces.{AnswersTraced}
use Rattle.faults.specs.Slots.{SlotCounts}
use Rattle.faults.specs.Total.{OneLength, Total}
use Rattle.dma.specs.Isolation.{Locality, AlwaysAnEntry, AccessMeansUnfetched, RightsOn, RightsOff, Unshared}
use Rattle.dma.specs.Named.{AtMostNine, NoneUntaken}
use Rattle.dma.specs.NoInterrupt.{NoInterruptGranted, WholeFrameTested}
use Rattle.dma.specs.Reached.{GrantedByOwnWalk}
use Rattle.translation.specs.Claims.{TranslationLocality, TranslationAccessMeansUnfetched, TranslationAtMostNine, TranslationNoneUntaken, TranslationReadsWords, TranslationAlwaysAnEntry, EnginesAgree, OnlyType1}
use Rattle.cache.specs.Claims.{Equal, AsCached, AsNow, OnlyPages, AtMost64, Held64, PushedOut, ByDomain, Newest, MustAnswer, JustThose, PageWords, WhenCached, DomainAsCached}
use Rattle.cache.specs.Lent.{AsDefined, EqualCalls}
use Rattle.rights.specs.Rights.{ScalableMoreMemory, ScalableRightsOn, ScalableRightsOff}
use Rattle.claims.specs.ScalableClaims.{ScalableAccessMeansUnfetched, ScalableStaysInside, ScalableNoInterruptGranted, ScalableNoneUntaken, ScalableAlwaysAnEntry}
use Rattle.claims.specs.ScalableLent.{ScalableIsolation}
use Rattle.scalable_cases.specs.Instances.{ScalablePremisesMet}
use Rattle.scalable_cases.specs.Rows.{ScalableRows}
use Rattle.scalable.specs.Isolation.{ScalableLocality, ScalableSetsExactly, ScalableLeavesAll}
use Rattle.scalable.specs.Named.{AtMostFifty}
use Rattle.agreement.specs.Claims.{WindowsTell, ListedWhereWalked, SpansAgree, OthersLack, SpansInOrder}
use Rattle.built.specs.Again.{BuildsOnEmpty, BuildsAgain}
use Rattle.built.specs.Claims.{BuiltAnswers}
use Rattle.built.specs.Inside.{BuildsInside, RefusalLeaves}
use Rattle.interrupts.specs.Claims.{SetsExactly, NotificationExactly, LeavesAll, StaysInside, IndexBound, EntryOfIndex, NoWrap, AtMostTen, NoneBeforeTable, InterruptAccessMeansUnfetched, Isolated, SameBits}
use Rattle.interrupts.specs.RaisedBy.{RemappedByEntry, PostedByEntry, OneSource, ExactSource}
use Rattle.takes.specs.Claims.{ClearsExactly, TakesStayInside, HandsHighest, NoneStands, FewerUntilHandedOut, HandedOutWithin, HandedOutWithin256, Conserved, NoneInvented, EitherOrder}
use Rattle.unit.specs.Isolation.{Isolation, MoreMemory, FlatImages}
use Rattle.cases.specs.Bench.{TwelveCases}
use Rattle.cases.specs.Instances.{PremisesMet}
use Rattle.cases.specs.InterruptFrames.{InterruptFrames}
use Rattle.cases.specs.PostsThroughWindows.{PostsThroughWindows}
use Rattle.cases.specs.Takes.{TakesMet}
use Rattle.cases.specs.Translations.{TranslationCases}
use Rattle.claims.specs.FirstNamed.{FirstNamed}
use Rattle.claims.specs.OneAnswer.{OneMemoryAnswer, OneTranslationAnswer, OneInterruptAnswer, OneScalableAnswer, OneTakeAnswer, OneRecorderAnswer, OneReason}
use Rattle.claims.specs.OneWindow.{WholeInOneWindow}

pub record Everything : Type 0 where
  -- demand 1: nothing is changed by an answer that is no post; what refusal 1 is for
  pub leaves_all : LeavesAll
  pub none-bad : NoneBad
  pub first-named : FirstNamed
  -- demand 2: one answer, the post, the index, the entry concerned, the recorder, the bench cases
  pub one-memory-answer : OneMemoryAnswer
  pub one-interrupt-answer : OneInterruptAnswer
  pub one-take-answer : OneTakeAnswer
  pub one-recorder-answer : OneRecorderAnswer
  pub one-reason : OneReason
  -- which interrupt is raised, and by whom
  pub remapped-by-entry : RemappedByEntry
  pub posted-by-entry : PostedByEntry
  pub one-source : OneSource
  pub exact-source : ExactSource
  pub sets-exactly : SetsExactly
  pub notification-exactly : NotificationExactly
  pub stays-inside : StaysInside
  pub index-bound : IndexBound
  pub entry-of-index : EntryOfIndex
  pub no_wrap : NoWrap
  pub always-an-entry : AlwaysAnEntry
  pub slot_counts : SlotCounts
  pub one-length : OneLength
  pub total : Total
  pub twelve-cases : TwelveCases
  -- document 02, Ask 9: entries through windows
  pub whole-in-one-window : WholeInOneWindow
  -- document 02, Ask 10: no memory request raises an interrupt
  pub no-interrupt-granted : NoInterruptGranted
  pub whole-frame-tested : WholeFrameTested
  pub interrupt-frames : InterruptFrames
  -- demand 3: memory, rights, and the words that are named
  pub isolation : Isolation
  pub locality : Locality
  pub access-means-unfetched : AccessMeansUnfetched
  pub isolated : Isolated
  pub same_bits : SameBits
  pub interrupt-access-means-unfetched : InterruptAccessMeansUnfetched
  pub rights-on : RightsOn
  pub rights-off : RightsOff
  pub unshared : Unshared
  pub more-memory : MoreMemory
  pub flat-images : FlatImages
  pub granted-by-own-walk : GrantedByOwnWalk
  pub premises-met : PremisesMet
  pub at-most-nine : AtMostNine
  pub none-untaken : NoneUntaken
  pub at-most-ten : AtMostTen
  pub none-before-table : NoneBeforeTable
  -- document 02, Ask 1: translation requests
  pub one-translation-answer : OneTranslationAnswer
  pub translation-locality : TranslationLocality
  pub translation-access-means-unfetched : TranslationAccessMeansUnfetched
  pub translation-at-most-nine : TranslationAtMostNine
  pub translation-none-untaken : TranslationNoneUntaken
  pub translation-reads-words : TranslationReadsWords
  pub translation-always-an-entry : TranslationAlwaysAnEntry
  pub engines-agree : EnginesAgree
  pub only-type-1 : OnlyType1
  pub translation-cases : TranslationCases
  -- document 02, Ask 11: the second engine, with a cache of 64 translations
  pub equal : Equal
  pub equal-calls : EqualCalls
  pub as-defined : AsDefined
  pub as-cached : AsCached
  pub when-cached : WhenCached
  pub as-now : AsNow
  pub only-pages : OnlyPages
  pub at-most-64 : AtMost64
  pub held64 : Held64
  pub pushed-out : PushedOut
  pub by-domain : ByDomain
  pub domain-as-cached : DomainAsCached
  pub newest : Newest
  pub must-answer : MustAnswer
  pub just-those : JustThose
  pub page-words : PageWords
  -- document 02, Ask 4: what is mapped
  pub windows-tell : WindowsTell
  pub listed-where-walked : ListedWhereWalked
  pub spans-agree : SpansAgree
  pub others-lack : OthersLack
  pub spans-in-order : SpansInOrder
  -- document 02, Ask 8: tables built
  pub builds-inside : BuildsInside
  pub refusal-leaves : RefusalLeaves
  pub built-answers : BuiltAnswers
  pub builds-on-empty : BuildsOnEmpty
  pub builds-again : BuildsAgain
  -- meters: exact at first, bounded always, and a byte for each
  pub first-ticks : FirstTicks
  pub decay : Decays
  pub never-above : NeverAbove
  pub stays-in-range : StaysInRange
  pub bytes-tell : BytesTell
  -- takes: one, and runs of posts and takes
  pub clears-exactly : ClearsExactly
  pub takes-stay-inside : TakesStayInside
  pub hands-highest : HandsHighest
  pub none-stands : NoneStands
  pub fewer-until-handed-out : FewerUntilHandedOut
  pub handed-out-within : HandedOutWithin
  pub handed-out-within-256 : HandedOutWithin256
  pub conserved : Conserved
  pub none-invented : NoneInvented
  pub either_order : EitherOrder
  pub takes-met : TakesMet
  pub posts-through-windows : PostsThroughWindows
  -- traces: damage is named, and an entry comes back from its bytes
  pub one-byte-named : OneByteNamed
  pub entry-back : EntryBack
  pub bytes-again : BytesAgain
  pub decoded-again : DecodedAgain
  pub one_block : OneBlock
  pub told-in-steps : ToldInSteps
  pub trace-handed-out : TraceHandedOut
  pub read_back : ReadBack
  -- entries of the unit's answers, and replay
  pub entries-well : EntriesWell
  pub entries-tell : EntriesTell
  pub replayed-in-steps : ReplayedInSteps
  pub replayed-in-order : ReplayedInOrder
  pub named-exactly : NamedExactly
  pub none-of-its-own : NoneOfItsOwn
  pub answers-traced : AnswersTraced
  -- scalable mode
  pub one-scalable-answer : OneScalableAnswer
  pub scalable-locality : ScalableLocality
  pub scalable-access-means-unfetched : ScalableAccessMeansUnfetched
  pub at-most-fifty : AtMostFifty
  pub scalable-none-untaken : ScalableNoneUntaken
  pub scalable-always-an-entry : ScalableAlwaysAnEntry
  pub scalable-no-interrupt-granted : ScalableNoInterruptGranted
  pub scalable-sets-exactly : ScalableSetsExactly
  pub scalable-leaves-all : ScalableLeavesAll
  pub scalable-stays-inside : ScalableStaysInside
  pub scalable-more-memory : ScalableMoreMemory
  pub scalable-rights-on : ScalableRightsOn
  pub scalable-rights-off : ScalableRightsOff
  pub scalable-isolation : ScalableIsolation
  pub scalable-rows : ScalableRows
  pub scalable-premises-met : ScalablePremisesMet
