-- Entries of the unit's answers are laid out well, and tell request and answer.
use Rattle.answered.specs.Claims.{EntriesWell, EntriesTell}
use Rattle.answered.proofs.Memory.{memory-well, memory-told}
use Rattle.answered.proofs.Translations.{translation-well, translation-told}
use Rattle.answered.proofs.Interrupts.{interrupt-well, interrupt-told}

pub entries-well : EntriesWell
entries-well =
    record {
      memory = λ registers windows bytes q. memory-well registers q windows bytes;
      translations = λ registers windows bytes q. translation-well registers q windows bytes;
      interrupts = λ registers windows bytes q. interrupt-well registers q windows bytes;
    }

pub entries-tell : EntriesTell
entries-tell =
    record {
      memory = λ registers windows bytes q. memory-told registers q windows bytes;
      translations = λ registers windows bytes q. translation-told registers q windows bytes;
      interrupts = λ registers windows bytes q. interrupt-told registers q windows bytes;
    }
