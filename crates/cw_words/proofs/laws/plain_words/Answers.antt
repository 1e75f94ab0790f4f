use Rattle.std.proofs.Common.{◌≡◌, None, Some, refl, true}
use Rattle.cw_words.specs.WordLaws.{HasTable, TakesBurden}
use Rattle.cw_words.specs.declared.verb.Verb.{Verb}
use Rattle.cw_words.specs.declared.verb.Verb.TheVariants as verb
use Rattle.cw_words.proofs.Reading.{are_read, burdened, check_is_read, edged, limited, nothing, prints, tabled, worked}
use Rattle.cw_words.proofs.Paging.{is_paged, none, topped, up_to}
use Rattle.cw_words.proofs.Gaining.{is_gaining}
use Rattle.cw_words.proofs.Scheduling.{is_scheduled}
use Rattle.cw_words.proofs.Speeding.{is_speeding}
use Rattle.cw_words.proofs.laws.plain_words.Goals as goal

takes_burden : (v : Verb) → HasTable v → TakesBurden v
takes_burden verb.Scale has = tt
takes_burden verb.Sites has = tt
takes_burden _ has = absurd has

prints_table : (v : Verb) → HasTable v → prints v ≡ true
prints_table verb.Scale has = refl
prints_table verb.Sites has = refl
prints_table _ has = absurd has

pub returns : goal.returns
returns c = record {
  check = check_is_read;
  usual = λ m file args runs plain plains few. are_read m nothing file args runs tt plain plains few;
  limited = λ m limit file args runs plain plain_file plains few. are_read m (limited limit) file args runs plain plain_file plains few;
  burdened = λ m burden file args runs plain plain_file plains few. are_read m (burdened burden) file args runs plain plain_file plains few;
  edged = λ m edges file args runs plain plain_file plains few. are_read m (edged edges) file args runs plain plain_file plains few;
  worked = λ m workers file args runs plain plain_file plains few. are_read m (worked workers) file args runs plain plain_file plains few;
  tabled = λ m file args has plain plains few. are_read m tabled file args (takes_burden m has) (prints_table m has) plain plains few;
  gain = λ file args plain plains few. is_gaining None file args tt plain plains few;
  gain_top = λ top file args plain_top plain plains few. is_gaining (Some top) file args plain_top plain plains few;
  greedy = λ processors file args plain plain_file plains few. is_scheduled None processors file args tt plain plain_file plains few;
  greedy_limited = λ limit processors file args plain_limit plain plain_file plains few. is_scheduled (Some limit) processors file args plain_limit plain plain_file plains few;
  speedup = λ file args plain plains few. is_speeding None file args tt plain plains few;
  speedup_processors = λ up_to file args plain_up_to plain plains few. is_speeding (Some up_to) file args plain_up_to plain plains few;
  page = λ file args plain plains few. is_paged none file args tt plain plains few;
  page_processors = λ n file args plain_n plain plains few. is_paged (up_to n) file args plain_n plain plains few;
  page_top = λ n file args plain_n plain plains few. is_paged (topped n) file args plain_n plain plains few;
}
