-- What is asked about one day of a feed.
use Rattle.std.specs.Prelude.{ℕ, List, [], ◌∷◌, codes, bytes_eq, Bool, false, true, Option, Some, None, if◌then◌else◌, ⊤}
use Rattle.std.specs.Option.{option_and_then, option_map}
use Rattle.std.specs.Result.{result_ok}
use Rattle.answer_text.specs.Questions.{HasTimes, question_of}
use Rattle.answer_text.specs.declared.question.Question.{Question}
use Rattle.clap.specs.Words.{Text}
use Rattle.footpaths.specs.declared.paths.Options.{Options}
use Rattle.gtfs_rows.specs.Dates.{date_of}
use Rattle.gtfs_rows.specs.Numbers.{time_of}
use Rattle.command_line.specs.Inquiries.{InquiryData}
use Rattle.command_line.specs.declared.request.Command.{Command}
use Rattle.command_line.specs.declared.request.Command.TheVariants as command
use Rattle.command_line.specs.declared.settings.Settings.{Settings}

-- a request about one day of a feed: what is said of footpaths, how many workers reduce the
-- transfers, whether round by round, whether as JSON, the folder, the date, and what is asked for
pub record DayRequestData : Type 0 where
  pub options : Options
  pub workers : ℕ
  pub plain : Bool
  pub json : Bool
  pub dir : Text
  pub date : ℕ
  pub command : Command

abbrev pub inquiry_of : Text → Text → Text → Option InquiryData
inquiry_of from to time =
    option_map (λ t. record { from = from; to = to; time = t }) (time_of time)

-- what is asked by the words FROM TO TIME
abbrev pub inquiry_from : List Text → Option InquiryData
inquiry_from (from ∷ to ∷ time ∷ []) = inquiry_of from to time
inquiry_from words = None

-- the question of this kind that words ask, where they have its form, and its times are times
abbrev pub question_from : Text → List Text → Option Question
question_from kind words = result_ok (question_of kind words)

-- with a list, where the word says so
abbrev pub list_word : Text → Option Bool
list_word word = if bytes_eq word (codes "list") then Some true else None

-- whether with a list: no word, or the word `list`
abbrev pub list_from : List Text → Option Bool
list_from [] = Some false
list_from (word ∷ []) = list_word word
list_from words = None

-- a command by its name and the words behind folder and date: `direct FROM TO TIME`, `build`,
-- `build list`, or the kind of a question and its words
abbrev pub command_of : Text → List Text → Option Command
command_of name words =
    if bytes_eq name (codes "direct") then option_map command.Direct (inquiry_from words)
    else if bytes_eq name (codes "build") then option_map command.Build (list_from words)
    else option_map command.Question (question_from name words)

-- the times of a question are ones that it may have
abbrev pub HasCommandTimes : Command → Type 0
HasCommandTimes (command.Direct i) = ⊤
HasCommandTimes (command.Question q) = HasTimes q
HasCommandTimes (command.Build list) = ⊤

-- a request by the command's name, the folder, the date, and the words behind them
abbrev pub day_request : Settings → Text → Text → Text → List Text → Option DayRequestData
day_request s name dir date words =
    option_and_then (λ day. option_map (λ c. record {
      options = s.options;
      workers = s.workers;
      plain = s.plain;
      json = s.json;
      dir = dir;
      date = day;
      command = c;
    }) (command_of name words)) (date_of date)

-- a request by the command's name and the words DIR DATE WORDS
abbrev pub day_request_from : Settings → Text → List Text → Option DayRequestData
day_request_from s name (dir ∷ date ∷ words) = day_request s name dir date words
day_request_from s name words = None
